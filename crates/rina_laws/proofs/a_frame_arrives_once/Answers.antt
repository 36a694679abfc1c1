-- A frame that nothing touched arrives once.
use Rattle.rina_laws.proofs.FramesRun.{frames_arrive_once}
use Rattle.rina_laws.proofs.a_frame_arrives_once.Goals as goal

pub returns : goal.returns
returns c = frames_arrive_once
