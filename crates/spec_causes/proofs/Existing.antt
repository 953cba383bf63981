-- Where some valuation meets conditions, a canonical one does.
use Rattle.std.proofs.Common.{◌≡◌, inl, inr, ℕ, List, [], ◌∷◌, ◌++◌, map, length, Bool, true, false, refl, sym, subst, append-nil, append_assoc}
use Rattle.gil_values.specs.Pure.{PureValue}
use Rattle.gil_values.specs.Symbols.{symbols_of_all}
use Rattle.pure_terms.specs.declared.variables.Sort.{Sort}
use Rattle.pure_terms.specs.Meaning.{Satisfies}
use Rattle.pure_terms.specs.Pure.{PureAtom}
use Rattle.pure_terms.specs.Renaming.{renamed}
use Rattle.sym_witness.specs.Numbering.{fresh_symbols, place_in, AreOthers}
use Rattle.sym_witness.proofs.Numbered.{is_numbered}
use Rattle.sym_witness.proofs.Others.{seen, seen_there, not_seen, known_more, new_more, none_yet}
use Rattle.spec_causes.specs.Causes.{MeetsAbove}
use Rattle.spec_causes.proofs.Shown.{numbered_like, told_met}

-- with one symbol more
one_more : (symbols fresh free : List ℕ) (n : ℕ) → AreOthers symbols fresh free → (b c : Bool) → seen fresh n ≡ b → seen free n ≡ c → (more : List ℕ) × AreOthers (symbols ++ n ∷ []) fresh more
one_more symbols fresh free n so_far true c in_fresh in_free = (free, known_more symbols fresh free n so_far (inr (seen_there fresh n in_fresh)))
one_more symbols fresh free n so_far false true in_fresh in_free = (free, known_more symbols fresh free n so_far (inl (seen_there free n in_free)))
one_more symbols fresh free n so_far false false in_fresh in_free = (free ++ n ∷ [], new_more symbols fresh free n so_far (not_seen fresh n in_fresh) (not_seen free n in_free))

others_from : (fresh rest symbols free : List ℕ) → AreOthers symbols fresh free → (all : List ℕ) × AreOthers (symbols ++ rest) fresh all
others_from fresh [] symbols free so_far = (free, subst (λ ns. AreOthers ns fresh free) (sym (append-nil symbols)) so_far)
others_from fresh (n ∷ rest) symbols free so_far =
    let (more, one) = one_more symbols fresh free n so_far (seen fresh n) (seen free n) refl refl in
    let (all, are) = others_from fresh rest (symbols ++ n ∷ []) more one in
    (all, subst (λ ns. AreOthers ns fresh all) (append_assoc symbols (n ∷ []) rest) are)

pub met_canonically : (vars : List Sort) (conds : List PureAtom) (v : List PureValue) → Satisfies vars v conds → (w : List PureValue) × ((counter : ℕ) × MeetsAbove counter vars conds w)
met_canonically vars conds v meets =
    let (free, are) = others_from (fresh_symbols vars v) (symbols_of_all v) [] [] (none_yet (fresh_symbols vars v)) in
    let w : List PureValue = map (renamed (place_in (free ++ fresh_symbols vars v))) v in
    (w, told_met vars conds v w meets (numbered_like vars (length free) v w meets.proper (is_numbered vars v free meets.proper are)))
