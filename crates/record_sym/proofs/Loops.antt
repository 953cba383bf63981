-- The steps of the loop over names that are taken.
use Rattle.std.proofs.Common.{◌≡◌, ℕ, ◌+◌, ◌<◌, List, [], ◌∷◌, ◌++◌, map, drop, get_or, length, sym, ap, ◌∙◌, refl, arith}
use Rattle.std.specs.List.{flat_map}
use Rattle.std.proofs.lemmas.List.{append_assoc, drop_more}
use Rattle.pure_terms.specs.declared.terms.Term.{Term}
use Rattle.pure_terms.specs.Pure.{PureTerm}
use Rattle.pure_terms.specs.View.{term_view}
use Rattle.sym_chunks.specs.Cases.{PureCase}
use Rattle.sym_chunks.specs.Walking.{PureWay, missing_key, next_ways, walk}
use Rattle.sym_model.specs.Pure.{PureSub, named, PureChunk}

-- one more name
pub walk_on : (cs : List PureChunk) (l : PureTerm) (names : List Term) (i : ℕ) (x : Term) (ws next : List PureWay) (cases more whole : List PureCase) → i < length names → x ≡ get_or names i x
    → cases ++ walk cs l (map named (map term_view (drop i names))) ws ≡ whole → more ≡ cases ++ flat_map (missing_key cs l (named (term_view x))) ws → next ≡ flat_map (next_ways l (named (term_view x))) ws
    → more ++ walk cs l (map named (map term_view (drop (i + 1) names))) next ≡ whole
walk_on cs l names i x ws next cases more whole below is so_far added went =
    let rest = map named (map term_view (drop (i + 1) names)) in
    (λ j. added j ++ walk cs l rest (went j))
    ∙ append_assoc cases (flat_map (missing_key cs l (named (term_view x))) ws) (walk cs l rest (flat_map (next_ways l (named (term_view x))) ws))
    ∙ ap (λ xs. cases ++ walk cs l (map named (map term_view xs)) ws) (ap (λ y. y ∷ drop (i + 1) names) is ∙ sym (drop_more names i x below))
    ∙ so_far

-- without ways a walk comes to nothing
pub no_ways : (cs : List PureChunk) (l : PureTerm) (ss : List PureSub) → walk cs l ss [] ≡ []
no_ways cs l [] = refl
no_ways cs l (s ∷ ss) = no_ways cs l ss

pub no_items : {X Y : Type 0} (f : X → Y) (xs : List X) → length xs ≡ 0 → map f xs ≡ []
no_items f [] is = refl
no_items f (x ∷ xs) is = absurd (omega (arith, is))
