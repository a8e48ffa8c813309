-- What is told of a host's partial.
--     runs_no_host, runs_no_partial      there is no host of the name, or it has no partial
--     runs_told      it is that of the model
use Rattle.std.specs.Prelude.{◌≡◌, ℕ, List, length, Option, Some, None, Ok, Err}
use Rattle.std.specs.Option.{option_map}
use Rattle.std.proofs.Common.{refl, sym, ap, ◌∙◌}
use Rattle.disk_trait.specs.declared.disk.Disk.{Ghosts as DiskGhosts}
use Rattle.pool_name.specs.declared.namer.Namer.{Ghosts as NamerGhosts}
use Rattle.host_partials.specs.declared.held.PartialHead.{PartialHead}
use Rattle.host_partials.specs.Held.{head_at}
use Rattle.office_catalog.specs.Known.{host_named, names_of}
use Rattle.office_model.specs.declared.answer.Answer.TheVariants.{Partial as PartialAnswer}
use Rattle.office_model.specs.declared.event.Event.TheVariants.{PartialInfo}
use Rattle.office_model.specs.declared.refusal.BrokenRule.TheVariants.{NoHost, NoPartial}
use Rattle.office_model.specs.declared.refusal.Refusal.TheVariants.{Broken}
use Rattle.office_model.specs.Office.{Office, Host, Partial, Names}
use Rattle.office_model.specs.Parts.{host_at}
use Rattle.office_model.specs.events.PartialInfo as PartialInfoEvent
use Rattle.store_parts.specs.KnownOffice.{named_host}
use Rattle.store_parts.specs.declared.parts.StoreParts.{StoreParts}
use Rattle.store_parts.specs.Held.{head_of}
use Rattle.store_parts.specs.States.{IsRunning}
use Rattle.store_parts.specs.Runs.{Runs}
use Rattle.store_parts.specs.RunLaws.{reads_still, runs_reads, counted_still}
use Rattle.store_parts.specs.RefusedLaws.{runs_no_host as runs_none_named, runs_broken}
use Rattle.store_partials.specs.HostLaws.{head_is}

-- the partial of which this is known
pub record HasHead (partial : Option Partial) (head : PartialHead) : Type 0 where
  pub value : Partial
  pub is : partial ≡ Some value
  pub same : head_of value ≡ head

has_head : (partial : Option Partial) (head : PartialHead) → option_map head_of partial ≡ Some head → HasHead partial head
has_head None head e = absurd cc
has_head (Some value) head e = record { value = value; is = refl; same = cc }

none_known : (partial : Option Partial) → option_map head_of partial ≡ None → partial ≡ None
none_known None e = refl
none_known (Some value) e = absurd cc

carried_is : (name : List ℕ) (office : Office) (place : ℕ) (host : Host) (value : Partial)
    → host_at office.hosts name ≡ Ok (record { index = place; value = host }) → host.partial ≡ Some value
    → PartialInfoEvent.carried name office ≡ Ok (record { answer = PartialAnswer (length value.tree) value.kind value.start; after = office })
carried_is name office place host value e is = rw (e, is) refl

module _ {D N S : Type 0} {d : DiskGhosts D} {n : NamerGhosts N S} where
  pub runs_no_host : (old : StoreParts D N S d n) (name : List ℕ) → None ≡ host_named (names_of old.catalog.hosts) name
      → Runs old (PartialInfo name) (Err (Broken NoHost)) old
  runs_no_host old name none = runs_none_named old (PartialInfo name) name none (λ office names e. rw e refl)

  module _ (old : StoreParts D N S d n) (name : List ℕ) (place : ℕ) (named : Some place ≡ host_named (names_of old.catalog.hosts) name) where
    pub runs_no_partial : head_at old.partials place ≡ None → Runs old (PartialInfo name) (Err (Broken NoPartial)) old
    runs_no_partial none = runs_broken old (PartialInfo name) NoPartial (λ office names at.
        let w = named_host office.durable old.catalog name place at.catalog_is named in
        let gone : w.host.partial ≡ None = none_known w.host.partial (sym (head_is old office names at place w.host w.is_host) ∙ none) in
        rw (w.judged, gone) refl)

    told_is : (head : PartialHead) → head_at old.partials place ≡ Some head → (office : Office) (names : Names) → IsRunning old office names
        → PartialInfoEvent.carried name office ≡ Ok (record { answer = PartialAnswer head.entries head.kind head.start; after = office })
    told_is head known office names at =
        let w = named_host office.durable old.catalog name place at.catalog_is named in
        let has = has_head w.host.partial head (sym (head_is old office names at place w.host w.is_host) ∙ known) in
        carried_is name office place w.host has.value w.judged has.is
        ∙ ap (λ (h : PartialHead). Ok (record { answer = PartialAnswer h.entries h.kind h.start; after = office })) has.same

    pub runs_told : (head : PartialHead) → head_at old.partials place ≡ Some head
        → Runs old (PartialInfo name) (Ok (PartialAnswer head.entries head.kind head.start)) old
    runs_told head known =
        runs_reads old old (PartialInfo name) (Ok (PartialAnswer head.entries head.kind head.start)) (reads_still old)
        (λ office names at. (told_is head known office names at, refl)) (λ office names at. tt) refl (λ e. absurd cc)
        (counted_still (d.fault_count old.journal.disk) _ (λ e. absurd cc))
