-- Frames that are written to a stream.
use Rattle.std.specs.Prelude.{◌≡◌, ℕ, List, ◌++◌, Option}
use Rattle.stream_traits.specs.Told.{behind}
use Rattle.tree_frames.specs.declared.nodes.Frame.{Frame}
use Rattle.restore_stream.specs.Layouts.{frames_bytes}

-- some frames were written: those that were left, but for those that are left still
pub record WroteFrames (old new : Option (List ℕ)) (left left' : List Frame) : Type 0 where
  pub bytes : List ℕ
  pub wrote : new ≡ behind old bytes
  pub parts : frames_bytes left ≡ bytes ++ frames_bytes left'
