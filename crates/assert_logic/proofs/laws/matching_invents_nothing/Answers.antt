use Rattle.std.proofs.Common.{◌⊎◌, inl, inr, ℕ, All, refl}
use Rattle.std.specs.List.{Contains}
use Rattle.std.proofs.lemmas.List.Elements.{All-contains_itself, All-weaker}
use Rattle.gil_syntax.proofs.Symbols.{all_of_each}
use Rattle.assert_logic.specs.Laws.{OccursInStore, OccursInState}
use Rattle.assert_logic.proofs.MatchedValues.{FactHolds, each_fact, cases_made, assertion_holds}
use Rattle.assert_logic.proofs.laws.matching_invents_nothing.Goals as goal

pub returns : goal.returns
returns c = λ p scope items t s found x v n made well is at occurs.
    let Q : ℕ → Type 0 = λ m. OccursInStore m t ⊎ OccursInState m s in
    let facts : All (FactHolds Q) s.facts =
    All-weaker (Contains s.facts) (FactHolds Q) (λ f has. (all_of_each Q f.ins (λ m among. inr (inr (f, (has, inl among)))), all_of_each Q f.outs (λ m among. inr (inr (f, (has, inr among)))))) s.facts (All-contains_itself s.facts) in
    (assertion_holds Q p.preds (cases_made p made) scope items t s found is well (λ y w value m within. inl (y, (w, (value, within)))) (λ k w value. (inr (inl (k, (w, (value, inl refl)))), λ m within. inr (inl (k, (w, (value, inr within))))), each_fact Q s.facts facts)).0 x v at n occurs
