-- Names and paths are text.
use Rattle.std.proofs.Common.{◌≡◌, ℕ, true, List, None}
use Rattle.std.specs.Str.{is_utf8}
use Rattle.std.proofs.lemmas.Str.{is_utf8-from_IsUtf8}
use Rattle.attr_records.specs.Names.{is_host_name}
use Rattle.attr_records.specs.PathRules.{broken_path_rule}
use Rattle.attr_records.specs.PathRuleLaws.{rules_kept}
use Rattle.event_texts.proofs.NameLemmas.{host_is_text}

pub host_is_utf8 : (host : List ℕ) → is_host_name host ≡ true → is_utf8 host ≡ true
host_is_utf8 host h = is_utf8-from_IsUtf8 host (host_is_text host h)

pub path_is_utf8 : (path : List ℕ) → broken_path_rule path ≡ None → is_utf8 path ≡ true
path_is_utf8 path e = (rules_kept path e).text
