-- Where no table stands, or one that may not stand there.
use Rattle.std.proofs.Common.{Some, ap, ◌∙◌, Option, ℕ}
use Rattle.std.specs.Ordering.{nat_cmp}
use Rattle.wire_bytes.specs.GrammarLaws.{whole_finds, narrow_refuses}
use Rattle.certificates.specs.Layout.{last_key, is_after, table_grammar, IsNextTable}
use Rattle.certificates.proofs.Next.{whole_again, next_finds, next_refuses}
use Rattle.certificates.proofs.tables.read_next_table.Goals as goal

pub returns-in-Err : goal.returns-in-Err
returns-in-Err c = λ before is. narrow_refuses (IsNextTable before) table_grammar.print (λ v n. n.is)
    (whole_again c.in-Err.field-0 c.in-Err.ensures (ap Some c.offset-start.ensures.value))

pub returns-then-not-is_number_after : goal.returns-then-not-is_number_after
returns-then-not-is_number_after c = λ before is.
    next_refuses table_grammar.Fits table_grammar.print nat_cmp (λ t. t.number) before (whole_finds c.in-Ok.ensures.finds)
    (c.if-not-is_number_after.ensures ∙ ap (λ (l : Option ℕ). is_after nat_cmp l c.in-Ok.table.number) is
    ∙ ap (is_after nat_cmp (last_key (λ t. t.number) before)) c.in-Ok.ensures.tells.number)
    (ap Some c.offset-start.ensures.value)

pub returns : goal.returns
returns c = λ before is. record {
  value = c.in-Ok.ensures.value;
  tells = c.in-Ok.ensures.tells;
  finds = next_finds table_grammar.Fits table_grammar.print nat_cmp (λ t. t.number) before (whole_finds c.in-Ok.ensures.finds)
      (c.if-not-is_number_after.ensures ∙ ap (λ (l : Option ℕ). is_after nat_cmp l c.in-Ok.table.number) is
      ∙ ap (is_after nat_cmp (last_key (λ t. t.number) before)) c.in-Ok.ensures.tells.number);
}
