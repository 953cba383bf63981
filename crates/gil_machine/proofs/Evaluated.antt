-- Steps of evaluation over a list of expressions.
use Rattle.std.proofs.Common.{◌≡◌, ℕ, zero, suc, ◌+◌, ◌≤◌, List, [], ◌∷◌, ◌++◌, take, length, Option, Some, None, Ok, Err, slice_get, refl, sym, ap, ◌∙◌, add-one}
use Rattle.std.proofs.lemmas.List.{take_all}
use Rattle.gil_values.specs.Pure.{PureValue}
use Rattle.gil_syntax.specs.Pure.{PureExpr, from_list}
use Rattle.gil_syntax.specs.Evaluation.{Store}
use Rattle.gil_machine.specs.Gives.{IsFault}
use Rattle.gil_machine.specs.Held.{HeldFault, HeldOutcome, HeldOutcomes, both_held, evaluate_held, evaluate_held_elements}

take-push : {X : Type 0} (us : List X) (i : ℕ) (u : X) → slice_get us i ≡ Some u → take (suc i) us ≡ take i us ++ u ∷ []
take-push [] i u is = cc
take-push (x ∷ us) zero u is = let here : x ≡ u = cc in ap (λ y. y ∷ []) here
take-push (x ∷ us) (suc i) u is = ap (λ rest. x ∷ rest) (take-push us i u is)

-- the values so far are those of the first expressions
abbrev pub EvaluatedTo : List PureExpr → Store → ℕ → List PureValue → Type 0
EvaluatedTo es s i vs = evaluate_held_elements (from_list (take i es)) s ≡ Ok vs

push_both : (h : HeldOutcome) (hs more : HeldOutcomes) (vs : List PureValue) (v : PureValue)
    → ((ws : List PureValue) → hs ≡ Ok ws → more ≡ Ok (ws ++ v ∷ [])) → both_held h hs ≡ Ok vs → both_held h more ≡ Ok (vs ++ v ∷ [])
push_both (Ok w) (Ok ws) more vs v behind is =
    let whole : w ∷ ws ≡ vs = cc in
    ap (both_held (Ok w)) (behind ws refl) ∙ ap (λ us. Ok (us ++ v ∷ [])) whole
push_both (Ok w) (Err fault) more vs v behind is = absurd (cc)
push_both (Err fault) hs more vs v behind is = absurd (cc)

push_ok : (us : List PureExpr) (e : PureExpr) (s : Store) (vs : List PureValue) (v : PureValue)
    → evaluate_held_elements (from_list us) s ≡ Ok vs → evaluate_held e s ≡ Ok v → evaluate_held_elements (from_list (us ++ e ∷ [])) s ≡ Ok (vs ++ v ∷ [])
push_ok [] e s vs v before now = let none : [] ≡ vs = cc in ap (λ h. both_held h (Ok [])) now ∙ ap (λ ws. Ok (ws ++ v ∷ [])) none
push_ok (u ∷ us) e s vs v before now =
    push_both (evaluate_held u s) (evaluate_held_elements (from_list us) s) (evaluate_held_elements (from_list (us ++ e ∷ [])) s) vs v
    (λ ws is. push_ok us e s ws v is now) before

pub evaluated_more : (es : List PureExpr) (s : Store) (i : ℕ) (e : PureExpr) (vs : List PureValue) (v : PureValue)
    → EvaluatedTo es s i vs → slice_get es i ≡ Some e → evaluate_held e s ≡ Ok v → EvaluatedTo es s (i + 1) (vs ++ v ∷ [])
evaluated_more es s i e vs v before is now =
    let next : take (i + 1) es ≡ take i es ++ e ∷ [] = ap (λ n. take n es) (add-one i) ∙ take-push es i e is in
    ap (λ us. evaluate_held_elements (from_list us) s) next ∙ push_ok (take i es) e s vs v before now

pub evaluated_whole : (es : List PureExpr) (s : Store) (i : ℕ) (vs : List PureValue) → length es ≤ i → EvaluatedTo es s i vs → evaluate_held_elements (from_list es) s ≡ Ok vs
evaluated_whole es s i vs past done = ap (λ us. evaluate_held_elements (from_list us) s) (sym (take_all i es past)) ∙ done

-- a fault behind expressions that have values is that of the list
behind_both : (h : HeldOutcome) (before whole : HeldOutcomes) (vs : List PureValue) (fault : HeldFault)
    → ((ws : List PureValue) → before ≡ Ok ws → whole ≡ Err fault) → both_held h before ≡ Ok vs → both_held h whole ≡ Err fault
behind_both (Ok w) (Ok ws) whole vs fault behind is = ap (both_held (Ok w)) (behind ws refl)
behind_both (Ok w) (Err other) whole vs fault behind is = absurd (cc)
behind_both (Err other) before whole vs fault behind is = absurd (cc)

fault_behind : (es : List PureExpr) (s : Store) (i : ℕ) (e : PureExpr) (vs : List PureValue) (fault : HeldFault)
    → EvaluatedTo es s i vs → slice_get es i ≡ Some e → evaluate_held e s ≡ Err fault → evaluate_held_elements (from_list es) s ≡ Err fault
fault_behind [] s i e vs fault before is now = absurd (cc)
fault_behind (d ∷ es) s zero e vs fault before is now =
    let here : d ≡ e = cc in ap (λ h. both_held h (evaluate_held_elements (from_list es) s)) (ap (λ u. evaluate_held u s) here ∙ now)
fault_behind (d ∷ es) s (suc i) e vs fault before is now =
    behind_both (evaluate_held d s) (evaluate_held_elements (from_list (take i es)) s) (evaluate_held_elements (from_list es) s) vs fault
    (λ ws ok. fault_behind es s i e ws fault ok is now) before

pub element_fault : (es : List PureExpr) (s : Store) (i : ℕ) (e : PureExpr) (vs : List PureValue) (fault : Option HeldFault)
    → EvaluatedTo es s i vs → slice_get es i ≡ Some e → IsFault fault (evaluate_held e s) → IsFault fault (evaluate_held_elements (from_list es) s)
element_fault es s i e vs (Some fault) before is now = fault_behind es s i e vs fault before is now
element_fault es s i e vs None before is now = tt
