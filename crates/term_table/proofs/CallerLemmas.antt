-- What callers of a table need of the numbers that they hold.
use Rattle.std.proofs.Common.{◌≡◌, ℕ, ◌<◌, List, [], ◌∷◌, map, length, refl, subst, ap, suc}
use Rattle.std.proofs.lemmas.List.{length-map}
use Rattle.std.proofs.lemmas.List.Elements.{All-nil, All-cons}
use Rattle.std.proofs.lemmas.Option.{get_or_from_slice_get, slice_get_within}
use Rattle.std.specs.List.{All, AllZip}
use Rattle.pure_terms.specs.declared.terms.Term.{Term}
use Rattle.pure_terms.specs.Pure.{PureTerm}
use Rattle.pure_terms.specs.View.{term_view}
use Rattle.term_table.specs.Nodes.{no_part}
use Rattle.term_table.specs.Tables.{Keeps, Names, NamesBelow, term_at, terms_of}

-- a number that names a term has it at its place
pub at_named : (ts : List PureTerm) (p : ℕ) (u : PureTerm) → Names ts p u → term_at ts p ≡ u
at_named ts p u h = get_or_from_slice_get ts p u no_part h

pub terms_at : (ts : List PureTerm) (ps : List ℕ) (us : List PureTerm) → AllZip (Names ts) ps us → map (term_at ts) ps ≡ us
terms_at ts [] [] a = refl
terms_at ts (p ∷ ps) (u ∷ us) a =
    let first = at_named ts p u a.0 in
    let rest = terms_at ts ps us a.1 in
    λ i. first i ∷ rest i
terms_at ts [] (u ∷ us) a = absurd a
terms_at ts (p ∷ ps) [] a = absurd a

-- a number that names a term is below the length
pub named_below : (ts : List Term) (p : ℕ) (u : PureTerm) → Names (terms_of ts) p u → p < length ts
named_below ts p u h = subst (λ n. p < n) (length-map ts term_view) (slice_get_within (map term_view ts) p u h)

pub all_below : (ts : List Term) (ps : List ℕ) (us : List PureTerm) → AllZip (Names (terms_of ts)) ps us → All (λ p. p < length ts) ps
all_below ts [] [] a = All-nil (λ p. p < length ts)
all_below ts (p ∷ ps) (u ∷ us) a = All-cons (λ q. q < length ts) p ps (named_below ts p u a.0) (all_below ts ps us a.1)
all_below ts [] (u ∷ us) a = absurd a
all_below ts (p ∷ ps) [] a = absurd a

-- numbers keep naming their terms
pub all_keep : (old ts : List PureTerm) (ps : List ℕ) (us : List PureTerm) → Keeps old ts → AllZip (Names old) ps us → AllZip (Names ts) ps us
all_keep old ts [] [] keeps a = a
all_keep old ts (p ∷ ps) (u ∷ us) keeps a = (keeps p u a.0, all_keep old ts ps us keeps a.1)
all_keep old ts [] (u ∷ us) keeps a = absurd a
all_keep old ts (p ∷ ps) [] keeps a = absurd a

-- there are as many numbers of parts as parts
pub parts_long : (ts : List PureTerm) (i : ℕ) (ps : List ℕ) (us : List PureTerm) → AllZip (NamesBelow ts i) ps us → length us ≡ length ps
parts_long ts i [] [] a = refl
parts_long ts i (p ∷ ps) (u ∷ us) a = ap suc (parts_long ts i ps us a.1)
parts_long ts i [] (u ∷ us) a = absurd a
parts_long ts i (p ∷ ps) [] a = absurd a
