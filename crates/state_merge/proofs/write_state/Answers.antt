-- `write_next` answers Done or Write alone, whose exit statuses are 0 and 7.
use Rattle.std.proofs.Common.{◌≡◌, inl, inr, sym, ap, ◌∙◌}
use Rattle.state_changes.specs.Statuses.{code_of}
use Rattle.state_merge.proofs.write_state.Goals as goal

pub returns-clause-exit : goal.returns-clause-exit
returns-clause-exit g c = elim c.write_next-status.ensures.only [
  | inl done ↦ inl (c.end.ensures ∙ ap code_of done)
  | inr unwritten ↦ inr (c.end.ensures ∙ ap code_of unwritten)
]

pub returns-clause-done : goal.returns-clause-done
returns-clause-done g c zero = elim c.write_next-status.ensures.only [
  | inl done ↦ c.write_next-status.ensures.done done
  | inr unwritten ↦ absurd (let clash : 7 ≡ 0 = sym (c.end.ensures ∙ ap code_of unwritten) ∙ zero in cc)
]

pub returns-clause-unwritten : goal.returns-clause-unwritten
returns-clause-unwritten g c seven = elim c.write_next-status.ensures.only [
  | inl done ↦ absurd (let clash : 0 ≡ 7 = sym (c.end.ensures ∙ ap code_of done) ∙ seven in cc)
  | inr unwritten ↦ c.write_next-status.ensures.cause unwritten
]

pub returns-clause-front : goal.returns-clause-front
returns-clause-front g c seven = elim c.write_next-status.ensures.only [
  | inl done ↦ absurd (let clash : 0 ≡ 7 = sym (c.end.ensures ∙ ap code_of done) ∙ seven in cc)
  | inr unwritten ↦ c.write_next-status.ensures.front unwritten
]
