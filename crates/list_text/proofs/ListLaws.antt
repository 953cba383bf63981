-- Lists that were printed are read again, and what is read has elements as they are read.
use Rattle.std.proofs.Common.{◌≡◌, ℕ, ◌≤◌, Bool, true, false, ◌||◌, eqb, List, [], ◌∷◌, ◌++◌, length, Option, Some, None, refl, sym, ap, subst, ◌∙◌, arith, inl, inr, append_assoc, length-append}
use Rattle.std.specs.Prelude.{codes}
use Rattle.std.specs.List.{AllByRecursion, flat_map, join_by}
use Rattle.std.proofs.lemmas.Bool.{cases_Bool, eqb-true, or_cases}
use Rattle.std.proofs.lemmas.Option.{same_Some}
use Rattle.gil_lexer.specs.Bytes.{begins, is_name_byte}
use Rattle.value_text.specs.Laws.{EndsWord}
use Rattle.value_text.specs.Reading.{Reading, ◌>>=◌, behind, many_at, with_front, before_no_comma, behind_comma, elements_at, bracketed_at}
use Rattle.value_text.proofs.Many.{IsAgain, Again, many_again, many_follow}
use Rattle.value_text.proofs.Says.{step, branch, many_says}
use Rattle.value_text.proofs.ValueLaws.{no_comma}
use Rattle.value_text.proofs.WordLaws.{behind_again}

-- what stands behind an element: a comma or the closing bracket
abbrev pub EndsElement : List ℕ → Type 0
EndsElement rest = begins (λ b. eqb b 44 || eqb b 93) rest ≡ true

pub comma_or_bracket : (b : ℕ) (P : ℕ → Type 0) → (eqb b 44 || eqb b 93) ≡ true → P 44 → P 93 → P b
comma_or_bracket b P e comma bracket =
    elim (or_cases (eqb b 44) (eqb b 93) e) [
      | inl is ↦ subst P (sym (eqb-true b 44 is)) comma
      | inr is ↦ subst P (sym (eqb-true b 93 is)) bracket
    ]

-- no word goes on there
pub element_ends : (rest : List ℕ) → EndsElement rest → EndsWord rest
element_ends [] ends = refl
element_ends (b ∷ rest) ends = comma_or_bracket b (λ c. is_name_byte c ≡ false) ends refl refl

closes_element : (rest : List ℕ) → begins (λ b. eqb b 93) rest ≡ true → EndsElement rest
closes_element [] e = absurd (cc e)
closes_element (b ∷ rest) e = rw (eqb-true b 93 e) refl

module _ {X : Type 0} (read : List ℕ → Reading X) (printed : X → List ℕ) where
  -- what was printed of an element is read again, and doesn't begin with a closing bracket
  pub record IsReadAgain (x : X) : Type 0 where
    pub again : (rest : List ℕ) → EndsElement rest → read (printed x ++ rest) ≡ Some (x, rest)
    pub opens : (rest : List ℕ) → begins (λ b. eqb b 93) (printed x ++ rest) ≡ false

  abbrev printed_next : X → List ℕ
  printed_next x = codes ", " ++ printed x

  next_again : (x : X) (rest : List ℕ) → IsReadAgain x → EndsElement rest → IsAgain before_no_comma (behind_comma read) printed_next EndsElement x rest
  next_again x rest is ends = record {
    again = rw (behind_again (codes ", ") (printed x ++ rest)) (is.again rest ends);
    some = refl;
    follows = refl;
  }

  all_next : (xs : List X) → AllByRecursion IsReadAgain xs → AllByRecursion (Again before_no_comma (behind_comma read) printed_next EndsElement) xs
  all_next [] all = tt
  all_next (x ∷ xs) all = ((λ rest ends. next_again x rest all.0 ends), all_next xs all.1)

  no_longer : (xs : List X) (rest : List ℕ) → length xs ≤ length (flat_map printed_next xs ++ rest)
  no_longer [] rest = omega arith
  no_longer (x ∷ xs) rest =
      omega (
        arith,
        no_longer xs rest,
        length-append (codes ", ") (printed x),
        length-append (printed_next x) (flat_map printed_next xs),
        length-append (printed_next x ++ flat_map printed_next xs) rest,
        length-append (flat_map printed_next xs) rest,
      )

  pub elements_again : (xs : List X) (rest : List ℕ) → AllByRecursion IsReadAgain xs → begins (λ b. eqb b 93) rest ≡ true
      → elements_at read (join_by printed (codes ", ") xs ++ rest) ≡ Some (xs, rest)
  elements_again [] rest all closes = rw closes refl
  elements_again (x ∷ xs) rest all closes =
      let ends = closes_element rest closes in
      let more = flat_map printed_next xs ++ rest in
      let many = all_next xs all.1 in
      let enough = no_longer xs rest in
      let follow = many_follow before_no_comma (behind_comma read) printed_next EndsElement (length more) xs rest many ends (no_comma rest closes) enough in
      let again = many_again before_no_comma (behind_comma read) printed_next EndsElement (length more) xs rest many ends (no_comma rest closes) enough in
      rw (append_assoc (printed x) (flat_map printed_next xs) rest, all.0.opens more, all.0.again more follow, again) refl

  pub bracketed_again : (xs : List X) (rest : List ℕ) → AllByRecursion IsReadAgain xs
      → bracketed_at read ((codes "[" ++ join_by printed (codes ", ") xs ++ codes "]") ++ rest) ≡ Some (xs, rest)
  unfolding bracketed_at
  bracketed_again xs rest all =
      let joined = join_by printed (codes ", ") xs in
      let grouped : (joined ++ 93 ∷ []) ++ rest ≡ joined ++ 93 ∷ rest = append_assoc joined (93 ∷ []) rest in
      rw grouped (rw (behind_again (91 ∷ []) (joined ++ 93 ∷ rest), elements_again xs (93 ∷ rest) all refl, behind_again (93 ∷ []) rest) refl)

-- ---- what is read

module _ {X : Type 0} (read : List ℕ → Reading X) (P : X → Type 0) (each : (bytes : List ℕ) (y : X × List ℕ) → read bytes ≡ Some y → P y.0) where
  comma_says : (bytes : List ℕ) (y : X × List ℕ) → behind_comma read bytes ≡ Some y → P y.0
  comma_says bytes y e = let s = step (behind (codes ", ") bytes) read y e in each s.first y s.then_read

  abbrev elements_rest : List ℕ → Reading (List X)
  elements_rest bytes = read bytes >>= λ x. with_front (x.0 ∷ []) (many_at before_no_comma (behind_comma read) (length x.1) x.1)

  elements_say : (bytes : List ℕ) (y : List X × List ℕ) → elements_at read bytes ≡ Some y → AllByRecursion P y.0
  elements_say bytes y e = elim (branch {A = List X × List ℕ} (begins (λ b. eqb b 93) bytes) (Some ([], bytes)) (elements_rest bytes) y e) [
    | inl (test, is) ↦ subst (λ p. AllByRecursion P p.0) (same_Some _ _ is) tt
    | inr (test, is) ↦
        let s = step (read bytes) _ y is in
        let more = step (many_at before_no_comma (behind_comma read) (length s.first.1) s.first.1) _ y s.then_read in
        subst (λ p. AllByRecursion P p.0) (same_Some _ _ more.then_read)
        (each bytes s.first s.read, many_says before_no_comma (behind_comma read) P comma_says (length s.first.1) s.first.1 more.first more.read)
  ]

  pub bracketed_says : (bytes : List ℕ) (y : List X × List ℕ) → bracketed_at read bytes ≡ Some y → AllByRecursion P y.0
  unfolding bracketed_at
  bracketed_says bytes y e =
      let a = step (behind (codes "[") bytes) _ y e in
      let b = step (elements_at read a.first) _ y a.then_read in
      let c = step (behind (codes "]") b.first.1) _ y b.then_read in
      subst (λ p. AllByRecursion P p.0) (same_Some _ _ c.then_read) (elements_say a.first b.first b.read)
