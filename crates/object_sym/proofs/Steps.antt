-- What literals of the code stand for, and the steps of the loop over the names of which one is deleted.
use Rattle.std.proofs.Common.{◌≡◌, ℕ, ◌+◌, ◌<◌, List, [], ◌∷◌, ◌++◌, map, take, drop, get_or, length, refl, sym, ap, ◌∙◌, rules}
use Rattle.std.proofs.lemmas.List.{append_assoc, map-append, take_more, drop_more}
use Rattle.object_sym.specs.Table.{taken_from, taken, relisted, taken_each}
use Rattle.pure_terms.specs.declared.literals.Literal.{Literal}
use Rattle.pure_terms.specs.declared.terms.Term.{Term, the_lemmas}
use Rattle.pure_terms.specs.Pure.{PureTerm, literal}
use Rattle.pure_terms.specs.View.{term_view}
use Rattle.sym_chunks.specs.ByPlace.{all_by_place}
use Rattle.sym_chunks.specs.Cases.{PureCase, case_of, missed_name}
use Rattle.sym_chunks.specs.Keys.{other_sub}
use Rattle.sym_model.specs.Alternatives.{Alternatives, both, same}
use Rattle.sym_model.specs.Pure.{PureChunk, named}

pub term_view-Lit : (x : Literal) → term_view (Term.Lit x) ≡ literal x
term_view-Lit x = search (rules, the_lemmas)

-- the cases for one name, where they may come
pub taken_is : (y : Alternatives) → (length y ≡ 0 → ⊥) → (l p : PureTerm) (cs less : List PureChunk) (loc e : PureTerm) → taken_from y loc (named e) less 0 cs ++ case_of (both y (all_by_place loc (λ c. other_sub (named e) c.sub) cs)) cs (missed_name l p) ≡ taken y l p cs less loc e
taken_is [] some l p cs less loc e = absurd (some refl)
taken_is (conds ∷ y) some l p cs less loc e = refl

-- the cases for the name at a place, after those for the names before it
pub taken_on : (l p : PureTerm) (cs : List PureChunk) (i : ℕ) (loc : PureTerm) (names : List Term) (k : ℕ) (x : Term) (out next whole : List PureCase) → k < length names → x ≡ get_or names k x
    → out ++ taken_each l p cs i loc (map term_view (take k names)) (map term_view (drop k names)) ≡ whole
    → next ≡ out ++ taken (both (same l loc) (same p (term_view x))) l p cs (relisted cs i (map term_view (take k names) ++ map term_view (drop (k + 1) names))) loc (term_view x)
    → next ++ taken_each l p cs i loc (map term_view (take (k + 1) names)) (map term_view (drop (k + 1) names)) ≡ whole
taken_on l p cs i loc names k x out next whole below is so_far added =
    let before = map term_view (take k names) in
    let after = map term_view (drop (k + 1) names) in
    let head = taken (both (same l loc) (same p (term_view x))) l p cs (relisted cs i (before ++ after)) loc (term_view x) in
    let gone : map term_view (take (k + 1) names) ≡ before ++ term_view x ∷ [] =
    ap (map term_view) (take_more names k x below ∙ ap (λ y. take k names ++ y ∷ []) (sym is)) ∙ map-append term_view (take k names) (x ∷ []) in
    ap (λ y. y ++ taken_each l p cs i loc (map term_view (take (k + 1) names)) after) added
    ∙ append_assoc out head (taken_each l p cs i loc (map term_view (take (k + 1) names)) after)
    ∙ ap (λ b. out ++ (head ++ taken_each l p cs i loc b after)) gone
    ∙ ap (λ xs. out ++ taken_each l p cs i loc before (map term_view xs)) (ap (λ y. y ∷ drop (k + 1) names) is ∙ sym (drop_more names k x below))
    ∙ so_far
