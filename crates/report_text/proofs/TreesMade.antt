-- Values of `serde_json` that are made one after another, and the trees that they stand for.
use Rattle.std.proofs.Common.{◌≡◌, List, [], ◌∷◌, ◌++◌, map, sym, ap, ◌∙◌, append_assoc, append-nil}
use Rattle.std.proofs.lemmas.List.{map-append}
use Rattle.serde_json.specs.Data.{Data, array}
use Rattle.serde_json.specs.View.{view, items_of, items_view}
use Rattle.serde_json.specs.declared.value.Value.{Value}
use Rattle.report_text.specs.Readings.{list_tree}

module _ {X : Type 0} (tree : X → Data) (all : List Data) where
  -- one value more is made, of the first that is left
  pub one_made : (found made : List Value) (v : Value) (x : X) (left rest : List X) → made ≡ found ++ v ∷ [] → view v ≡ tree x
      → left ≡ x ∷ rest → map view found ++ map tree left ≡ all → map view made ++ map tree rest ≡ all
  one_made found made v x left rest grown is first h =
      ap (λ vs. map view vs ++ map tree rest) grown
      ∙ ap (λ ds. ds ++ map tree rest) (map-append view found (v ∷ []))
      ∙ append_assoc (map view found) (view v ∷ []) (map tree rest)
      ∙ ap (λ d. map view found ++ d ∷ map tree rest) is
      ∙ ap (λ xs. map view found ++ map tree xs) (sym first)
      ∙ h

  -- none is left
  pub all_made : (found : List Value) (left : List X) → left ≡ [] → map view found ++ map tree left ≡ all
      → array (items_view found) ≡ list_tree all
  all_made found left none h = ap (λ ds. array (items_of ds))
      (sym (append-nil (map view found)) ∙ ap (λ xs. map view found ++ map tree xs) (sym none) ∙ h)
