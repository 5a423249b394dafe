use Rattle.std.proofs.Common.{◌≡◌, ◌+◌, length, ap, sym, ◌∙◌, arith}
use Rattle.roster_file.specs.Roster.{entries_from}
use Rattle.roster_file.proofs.RosterLines.{passed, counted, none_left, one_fewer}
use Rattle.roster_file.proofs.entries.Entries.next.Goals as goal

pub returns-then-not-is_comment_or_empty-clause-entry : goal.returns-then-not-is_comment_or_empty-clause-entry
returns-then-not-is_comment_or_empty-clause-entry c =
    let n = c.loop-text.self-inside.line + 1 in
    ap (λ u. u.entries) (sym c.self.view_is) ∙ sym c.loop-text.invariant.1 ∙ ap (entries_from n) c.in-Some.ensures.steps
    ∙ counted n c.in-Some.text.now c.next.new.self (sym c.is_comment_or_empty.ensures ∙ c.if-not-is_comment_or_empty.true)

pub loop-text-preserved : goal.loop-text-preserved
loop-text-preserved c =
    let n = c.loop-text.self-inside.line + 1 in
    let fewer = one_fewer _ _ _ c.in-Some.ensures.steps in (
      omega arith,
      sym (passed n c.in-Some.text.now c.next.new.self (sym c.is_comment_or_empty.ensures ∙ c.if-not-is_comment_or_empty.false))
          ∙ ap (entries_from n) (sym c.in-Some.ensures.steps) ∙ c.loop-text.invariant.1,
    )

pub returns-clause-entry : goal.returns-clause-entry
returns-clause-entry c =
    let n = c.loop-text.self-inside.line + 1 in
    let none = c.in_default.ensures.steps.0 in
    let empty = ap length none in (
      ap (λ u. u.entries) (sym c.self.view_is) ∙ sym c.loop-text.invariant.1 ∙ ap (entries_from n) none
          ∙ none_left n,
      (let end : n ≡ c.self.inside.line + length c.self.inside.lines + 1 = omega arith in end)
          ∙ ap (λ u. u.end) c.self.view_is,
    )
