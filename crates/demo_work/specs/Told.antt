-- What the answers told.
use Rattle.std.specs.Prelude.{ℕ, ◌+◌, List, [], ◌∷◌, ◌++◌, length, count_by, Ok, Err}
use Rattle.md5.specs.Md5.{md5}
use Rattle.restore_stream.specs.Layouts.{magic, frame_bytes}
use Rattle.office_model.specs.declared.answer.OfficeStats.{OfficeStats}
use Rattle.office_model.specs.declared.answer.Answer.{Answer}
use Rattle.office_model.specs.declared.answer.Answer.TheVariants as A
use Rattle.office_model.specs.Meaning.{Reply}
use Rattle.office_model.specs.Step.{Call}
use Rattle.demo_work.specs.declared.ends.Summary.{Summary}
use Rattle.demo_work.specs.Asks.{lines_in}

-- how many backups were listed and how many of them are filled, the office's numbers, and the streams that were read
pub record Told : Type 0 where
  pub backups : ℕ
  pub filled : ℕ
  pub stats : OfficeStats
  pub streams : List ℕ

abbrev pub no_stats : OfficeStats
no_stats = record { hosts = 0; backups = 0; dumps = 0; restores = 0; files = 0; marked = 0; bytes = 0 }

abbrev pub nothing_told : Told
nothing_told = record { backups = 0; filled = 0; stats = no_stats; streams = [] }

abbrev pub stats_after : OfficeStats → Answer → OfficeStats
stats_after stats (A.Stats told) = told
stats_after stats _ = stats

-- a stream begins with its magic
abbrev pub stream_in : Answer → List ℕ
stream_in (A.Restore restore) = magic
stream_in (A.Next frame) = frame_bytes frame
stream_in _ = []

abbrev pub told_with : Told → Answer → Told
told_with told answer = record {
  backups = told.backups + length (lines_in answer);
  filled = told.filled + count_by (λ line. line.filled) (lines_in answer);
  stats = stats_after told.stats answer;
  streams = told.streams ++ stream_in answer;
}

abbrev pub told_by : Told → Reply → Told
told_by told (Ok answer) = told_with told answer
told_by told (Err refusal) = told

abbrev pub told_of : Told → List Call → Told
told_of told [] = told
told_of told (call ∷ calls) = told_of (told_by told call.1) calls

abbrev pub summary_of : ℕ → Told → Summary
summary_of number told = record {
  number = number;
  backups = told.backups;
  filled = told.filled;
  files = told.stats.files;
  bytes = told.stats.bytes;
  marked = told.stats.marked;
  check = md5 told.streams;
}
