use Rattle.std.proofs.Common.{◌≡◌}
use Rattle.disk_model.proofs.ByChance.{each_image}
use Rattle.disk_model.proofs.Firm.{firm_images, firm_plain, firm_shortened}
use Rattle.disk_model.proofs.laws.firm_frames_are_left.Goals as goal

pub returns-clause-left : goal.returns-clause-left
returns-clause-left c = λ len frames file image framing synced firm is not. each_image len (λ gs. gs ≡ frames) file synced (firm_images len framing frames file firm) image is not

pub returns-clause-plain : goal.returns-clause-plain
returns-clause-plain c = λ len file framing plain. firm_plain len framing file plain

pub returns-clause-cut : goal.returns-clause-cut
returns-clause-cut c = λ len frames file framing firm. firm_shortened len framing frames file firm
