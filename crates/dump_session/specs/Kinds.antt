-- The kinds of nodes.
use Rattle.std.specs.Prelude.{Bool, true, false}
use Rattle.dump_session.specs.declared.nodes.NodeKind.{NodeKind}
use Rattle.dump_session.specs.declared.nodes.NodeKind.TheVariants.{File, Dir, Link}

-- the kind of a directory
abbrev pub is_dir_kind : NodeKind → Bool
is_dir_kind File = false
is_dir_kind Dir = true
is_dir_kind Link = false
