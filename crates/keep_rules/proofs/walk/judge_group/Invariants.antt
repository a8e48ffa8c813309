-- The lines from the index on are judged, and the counts are theirs.
use Rattle.std.proofs.Common.{◌≡◌, ◌≤◌, ◌++◌, length, take, drop}
use Rattle.std.specs.List.{count_by}
use Rattle.keep_rules.specs.Groups.{is_filled_in, is_unfilled_in}
use Rattle.keep_rules.specs.Keeping.{next_older, kept_count}
use Rattle.keep_rules.specs.Walk.{walked}
use Rattle.keep_rules.proofs.walk.judge_group.Given as goal

abbrev pub invariant-loop-index : goal.invariant-loop-index
invariant-loop-index l = record {
  within : l.index ≤ length l.lines;
  flags : l.out ≡ take l.index l.initial.out ++ walked l.rules l.now l.group (next_older l.rules l.now l.group (take l.index l.lines)) (drop l.index l.lines) (drop l.index l.initial.out);
  kept : l.newer.kept ≡ kept_count l.rules l.now l.group (next_older l.rules l.now l.group (take l.index l.lines)) (drop l.index l.lines);
  filled : l.newer.filled ≡ count_by (is_filled_in l.rules l.now l.group) (drop l.index l.lines);
  unfilled : l.newer.unfilled ≡ count_by (is_unfilled_in l.rules l.now l.group) (drop l.index l.lines);
}
