use Rattle.record_frame.proofs.FrontFrames.{record_len-within, record_len-alike, framed_record-alike, spelling-framed}
use Rattle.record_frame.proofs.laws.record_frames_stand_alone.Goals as goal

pub returns-clause-within : goal.returns-clause-within
returns-clause-within c = record_len-within

pub returns-clause-len : goal.returns-clause-len
returns-clause-len c = record_len-alike

pub returns-clause-value : goal.returns-clause-value
returns-clause-value c = framed_record-alike

pub returns-clause-spelled : goal.returns-clause-spelled
returns-clause-spelled c = λ frame rest r is. let framed = spelling-framed frame rest r is in (framed.0, framed.1)
