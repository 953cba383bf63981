-- List terms of the code and their elements, and what is known of answers.
use Rattle.std.proofs.Common.{◌≡◌, ◌<◌, ◌≤◌, List, [], ◌∷◌, map, get_or, length, Result, Ok, Err, IfOk, sym, ap, ◌∙◌, arith, rules}
use Rattle.pure_terms.specs.declared.terms.Term
use Rattle.pure_terms.specs.declared.terms.Term.{Term, the_lemmas}
use Rattle.pure_terms.specs.declared.terms.Terms.{Terms}
use Rattle.pure_terms.specs.Pure.{PureTerm, list_of, from_list, to_list, to_list-from_list}
use Rattle.pure_terms.specs.View.{term_view, terms_view}

pub ok_to : {A E : Type 0} (r : Result A E) (P Q : A → Type 0) → ((x : A) → P x → Q x) → IfOk r P → IfOk r Q
ok_to (Ok x) P Q f is = f x is
ok_to (Err e) P Q f is = tt

pub of_elements : {X : Type 0} (f : List PureTerm → X) (ts us : List PureTerm) → us ≡ ts → f us ≡ f (to_list (from_list ts))
of_elements f ts us e = ap f (e ∙ sym (to_list-from_list ts))

pub two_terms : (slice : List Term) (x y : Term) (ts : List PureTerm) → 2 ≤ length slice → length slice < 3 → x ≡ get_or slice 0 x → y ≡ get_or slice 1 y → map term_view slice ≡ ts → term_view x ∷ term_view y ∷ [] ≡ ts
two_terms [] x y ts least below first second is = absurd (omega (arith, least))
two_terms (a ∷ []) x y ts least below first second is = absurd (omega (arith, least))
two_terms (a ∷ b ∷ []) x y ts least below first second is = (λ i. term_view (first i) ∷ term_view (second i) ∷ []) ∙ is
two_terms (a ∷ b ∷ c ∷ slice) x y ts least below first second is = absurd (omega (arith, below))

pub three_terms : (slice : List Term) (x y z : Term) (ts : List PureTerm) → 3 ≤ length slice → length slice < 4 → x ≡ get_or slice 0 x → y ≡ get_or slice 1 y → z ≡ get_or slice 2 z → map term_view slice ≡ ts → term_view x ∷ term_view y ∷ term_view z ∷ [] ≡ ts
three_terms [] x y z ts least below first second third is = absurd (omega (arith, least))
three_terms (a ∷ []) x y z ts least below first second third is = absurd (omega (arith, least))
three_terms (a ∷ b ∷ []) x y z ts least below first second third is = absurd (omega (arith, least))
three_terms (a ∷ b ∷ c ∷ []) x y z ts least below first second third is = (λ i. term_view (first i) ∷ term_view (second i) ∷ term_view (third i) ∷ []) ∙ is
three_terms (a ∷ b ∷ c ∷ d ∷ slice) x y z ts least below first second third is = absurd (omega (arith, below))

pub term_view-List : (ts : Terms) → term_view (Term.List ts) ≡ list_of (from_list (terms_view ts))
term_view-List ts = search (rules, the_lemmas)

pub one_term : (slice : List Term) (x : Term) (ts : List PureTerm) → 1 ≤ length slice → length slice < 2 → x ≡ get_or slice 0 x → map term_view slice ≡ ts → term_view x ∷ [] ≡ ts
one_term [] x ts least below first is = absurd (omega (arith, least))
one_term (a ∷ []) x ts least below first is = ap (λ t. term_view t ∷ []) first ∙ is
one_term (a ∷ b ∷ slice) x ts least below first is = absurd (omega (arith, below))
