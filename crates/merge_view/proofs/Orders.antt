-- What the merges make is in order, and what is at its paths.
use Rattle.merge_view.specs.ViewLaws.{IsInOrder-view, IsInOrder-reverse, IsInOrder-stacked, IsInOrder-trimmed, node_at-view, node_at-reverse, node_at-stacked, node_at-trimmed, view-reverse, view-stacked, trimmed-view, IsWhole-view}
use Rattle.merge_view.specs.RunLaws.{IsInOrder-children, children-within}

pub ruleset orders = (IsInOrder-view, IsInOrder-reverse, IsInOrder-stacked, IsInOrder-trimmed, node_at-view, node_at-reverse, node_at-stacked, node_at-trimmed, view-reverse, view-stacked, trimmed-view, IsWhole-view)

pub ruleset listings = (IsInOrder-children, children-within)
