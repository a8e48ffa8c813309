-- How a run ends that opened its store, if no count rose.
--     rule_ends, call_ends, all_ends      by its note
--     said_rose      the link's count rose, if what was to be said wasn't
use Rattle.std.proofs.Common.{◌≡◌, ℕ, ◌-◌, ◌^◌, ◌<◌, Bool, true, false, List, Option, None, Some, refl, subst, inl, inr, arith}
use Rattle.fault_counts.specs.Counts.{Rose}
use Rattle.disk_trait.specs.declared.disk.Disk.{Ghosts as DiskGhosts}
use Rattle.office_model.specs.Office.{Durable}
use Rattle.office_model.specs.declared.refusal.Refusal.{Refusal}
use Rattle.office_model.specs.declared.refusal.Refusal.TheVariants as R
use Rattle.stream_traits.specs.Seen.{LinkSeen}
use Rattle.admin_cli.specs.declared.note.Note.{Note}
use Rattle.admin_cli.specs.declared.note.Note.TheVariants as N
use Rattle.admin_cli.specs.Nights.{note_of_all, Says}
use Rattle.admin_cli.specs.Folders.{note_of_rule, note_of_call, IsCauseAtWork}
use Rattle.admin_cli.proofs.RunLaws.{EndsWell}

module _ {D : Type 0} (d : DiskGhosts D) (digest_of : List ℕ → List ℕ) (disk disk' : D) (linked linked' : ℕ) (note : Note) (a b : Durable)
    (m : d.fault_count disk < 2 ^ 64 - 1) (same : d.fault_count disk' ≡ d.fault_count disk) (l : linked < 2 ^ 64 - 1)
    (same_link : linked' ≡ linked) where
  abbrev Ends : Note → Type 0
  Ends said = EndsWell d digest_of disk disk' linked linked' note said a b

  pub rule_ends : (said : Note) (halted : Bool) → Ends said → (halted ≡ true → Rose (d.fault_count disk) (d.fault_count disk'))
      → Ends (note_of_rule said halted)
  rule_ends said true well stopped =
      let rose : Rose (d.fault_count disk) (d.fault_count disk') = stopped refl in absurd (omega (arith, rose, m, same))
  rule_ends said false well stopped = well

  pub call_ends : (refusal : Refusal) (halted : Bool) → IsCauseAtWork refusal (d.fault_count disk) (d.fault_count disk')
      → (halted ≡ true → Rose (d.fault_count disk) (d.fault_count disk')) → Ends (note_of_call refusal halted)
  call_ends (R.Broken rule) halted cause stopped = rule_ends (N.Refused rule) halted (inr (inl refl)) stopped
  call_ends R.Halted halted cause stopped = absurd cause
  call_ends R.DiskFault halted cause stopped = absurd (omega (arith, cause, m, same))
  call_ends (R.Damaged file found) halted cause stopped = absurd cause
  call_ends R.Memory halted cause stopped = inr (inr (inl refl))

  pub all_ends : (failed halted : Bool) → (failed ≡ true → Rose linked linked') → (halted ≡ true → Rose (d.fault_count disk) (d.fault_count disk'))
      → Ends (note_of_all failed halted)
  all_ends true halted link stopped = let rose : Rose linked linked' = link refl in absurd (omega (arith, rose, l, same_link))
  all_ends false true link stopped =
      let rose : Rose (d.fault_count disk) (d.fault_count disk') = stopped refl in absurd (omega (arith, rose, m, same))
  all_ends false false link stopped = inl refl

  pub said_rose : (text : Option (List ℕ)) (link link' : LinkSeen) (failed : Bool) → link.faults ≡ linked → link'.faults ≡ linked'
      → Says text link link' failed → failed ≡ true → Rose linked linked'
  said_rose None link link' failed is is' says e = let no : ⊥ = let f' = says.1 in cc (f', e) in absurd no
  said_rose (Some text) link link' failed is is' says e =
      subst (λ (k : ℕ). Rose k linked') is (subst (λ (k : ℕ). Rose link.faults k) is' (says.counted.rose e))
