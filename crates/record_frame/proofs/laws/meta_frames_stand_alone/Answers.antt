use Rattle.record_frame.proofs.FrontFrames.{meta_len-within, meta_len-alike, framed_meta-alike, meta-spelling-framed}
use Rattle.record_frame.proofs.laws.meta_frames_stand_alone.Goals as goal

pub returns-clause-within : goal.returns-clause-within
returns-clause-within c = meta_len-within

pub returns-clause-len : goal.returns-clause-len
returns-clause-len c = meta_len-alike

pub returns-clause-value : goal.returns-clause-value
returns-clause-value c = framed_meta-alike

pub returns-clause-spelled : goal.returns-clause-spelled
returns-clause-spelled c = λ frame rest m is. let framed = meta-spelling-framed frame rest m is in (framed.0, framed.1)
