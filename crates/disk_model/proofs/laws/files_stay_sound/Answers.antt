use Rattle.disk_model.proofs.Sound.{sound_written, sound_shortened, sound_synced}
use Rattle.disk_model.proofs.laws.files_stay_sound.Goals as goal

pub returns-clause-write : goal.returns-clause-write
returns-clause-write c = λ file at bytes sound le. sound_written file sound at bytes le

pub returns-clause-cut : goal.returns-clause-cut
returns-clause-cut c = λ file len sound. sound_shortened file sound len

pub returns-clause-sync : goal.returns-clause-sync
returns-clause-sync c = sound_synced
