-- What is shown of the first and of those behind it is shown of all.
use Rattle.std.proofs.Common.{rules, ◌≡◌, ◌-◌, ◌≤◌, ◌<◌, None, ℕ, List, [], ◌∷◌, length, take, drop, get_or, subst, sym, arith}
use Rattle.std.specs.Bool.{IsTrue}
use Rattle.std.proofs.lemmas.Grind.{common_steps}
use Rattle.std.proofs.lemmas.List.{take_all}
use Rattle.lists.specs.Each.{Each}
use Rattle.lists.proofs.Members.{each_whole}
use Rattle.receivers.proofs.fresh.+show_untaken.Goals as goal

module _ {A : Type 0} (P : A → Type 0) where
  to_first : (xs : List A) (x : A) → x ≡ get_or xs 0 x → 1 ≤ length xs → Each P xs → P x
  to_first [] x is some all = absurd (omega arith)
  to_first (y ∷ ys) x is some all = subst P (sym is) all.0

  to_rest : (xs : List A) → Each P xs → Each P (take (length xs - 1) (drop 1 xs))
  to_rest [] all = tt
  to_rest (y ∷ ys) all = subst (Each P) (sym (take_all (length (y ∷ ys) - 1) ys (omega arith))) all.1

  from_first : (xs : List A) (x : A) → x ≡ get_or xs 0 x → 1 ≤ length xs → P x → Each P (take (length xs - 1) (drop 1 xs)) → Each P xs
  from_first [] x is some here later = absurd (omega arith)
  from_first (y ∷ ys) x is some here later = (subst P is here, each_whole P ys (length (y ∷ ys) - 1) (omega arith) later)

pub show_one-requires : goal.show_one-requires
show_one-requires g t c =
    to_first (λ r. r.ended ≡ None) c.args.receivers.now c.receiver-item.result c.receiver-item.is c.in-len1-up.len_at_least c.requires

pub show_untaken-requires : goal.show_untaken-requires
show_untaken-requires g t c κs within = (
  grind (arith, common_steps),
  (
    search (rules, within.0, within.1),
    (search (rules, within.0, within.1), to_rest (λ r. r.ended ≡ None) c.args.receivers.now c.requires),
  ),
)

pub returns-in-len1-up : goal.returns-in-len1-up
returns-in-len1-up g t c =
    from_first (λ r. IsTrue g.S.Source.tells → g.S.Source.taken r.source ≡ []) c.args.receivers.now c.receiver-item.result
    c.receiver-item.is c.in-len1-up.len_at_least c.show_one.ensures c.show_untaken.ensures
