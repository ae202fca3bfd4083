use Rattle.disk_model.proofs.Cached.{cached_write, cached_cut, cached_sync}
use Rattle.disk_model.proofs.laws.a_cache_is_a_disk.Goals as goal

pub returns-clause-write : goal.returns-clause-write
returns-clause-write c = λ h file at bytes sound le. cached_write h file sound at bytes le

pub returns-clause-cut : goal.returns-clause-cut
returns-clause-cut c = λ h file len sound. cached_cut h file sound len

pub returns-clause-sync : goal.returns-clause-sync
returns-clause-sync c = λ h file sound. cached_sync h file sound
