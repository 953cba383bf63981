-- Proofs that were printed are read again.
use Rattle.std.proofs.Common.{◌≡◌, ℕ, zero, suc, ◌+◌, ◌<◌, ◌≤◌, ◌^◌, Bool, true, false, ◌||◌, eqb, List, [], ◌∷◌, ◌++◌, length, Option, Some, None, refl, sym, ap, ◌∙◌, arith, append_assoc, length-append, inl, inr}
use Rattle.std.specs.Prelude.{codes}
use Rattle.std.specs.Char.{is_ascii_digit}
use Rattle.std.specs.List.{AllByRecursion, flat_map, join_by}
use Rattle.std.proofs.lemmas.Bool.{true≢false, cases_Bool, or_left, or_right}
use Rattle.gil_values.specs.Printed.{numeral, signed_numeral}
use Rattle.gil_lexer.specs.Bytes.{begins, is_name_byte}
use Rattle.gil_syntax.specs.Pure.{PureExpr}
use Rattle.syntax_print.specs.Expressions.{printed_expr}
use Rattle.solver_proof.specs.declared.proofs.ChainEnd.{ChainEnd}
use Rattle.solver_proof.specs.declared.proofs.Factor.{Factor}
use Rattle.solver_print.specs.Proofs.{in_brackets, printed_factor, printed_end, printed_chain, printed_meet, printed_sum}
use Rattle.value_text.specs.Laws.{EndsWord}
use Rattle.value_text.specs.Reading.{Reading, behind, natural_at}
use Rattle.value_text.proofs.NumberLaws.{first_not, integer_again, natural_again, numeral_begins}
use Rattle.value_text.proofs.ValueLaws.{digit_ends}
use Rattle.value_text.proofs.WordLaws.{behind_again}
use Rattle.list_text.proofs.ListLaws.{EndsElement, IsReadAgain, bracketed_again, comma_or_bracket, element_ends}
use Rattle.expression_text.specs.Writable.{IsWritableExpr}
use Rattle.expression_text.proofs.ExpressionLaws.{expressions_again}
use Rattle.gil_report.specs.Proofs.{printed_proof, printed_proofs}
use Rattle.gil_report.specs.Pure as pure
use Rattle.gil_report.specs.Pure.{PureNamedProof, sum_of, chain, cases_of, parts_apart, split_on}
use Rattle.gil_report.specs.Pure.{PureNamedProofs, no_proofs, proof_and, from_list}
use Rattle.proof_text.specs.Laws.{EndsProof, ProofsAgain}
use Rattle.proof_text.specs.Reading.{factor_at, factors_at, places_at, sum_at, false_at, not_at, both_at, kinds_at, kind_at, end_at, chain_at, meet_at, branches_at, cases_at, values_at, differ_at, from_elements_at, elements_of, parts_at, split_at, parted_at, worded_at, proof_at}
use Rattle.proof_text.specs.Writable.{IsPlaceOfAtom, IsWritableFactor, IsWritableEnd, IsWritableProof, AreWritableProofs}

-- ---- what follows

no_name_byte : (rest : List ℕ) → EndsProof rest → EndsWord rest
no_name_byte [] ends = refl
no_name_byte (b ∷ rest) ends =
    elim (cases_Bool (is_name_byte b)) [
      | inl named ↦ absurd (true≢false (sym (or_left (is_name_byte b) (eqb b 32) named) ∙ ends))
      | inr other ↦ other
    ]

no_digit : (rest : List ℕ) → EndsProof rest → begins is_ascii_digit rest ≡ false
no_digit rest ends = digit_ends rest (no_name_byte rest ends)

no_blank : (rest : List ℕ) → EndsProof rest → behind (codes " ") rest ≡ None
unfolding behind
no_blank [] ends = refl
no_blank (b ∷ rest) ends =
    elim (cases_Bool (eqb b 32)) [
      | inl blank ↦ absurd (true≢false (sym (or_right (is_name_byte b) (eqb b 32) blank) ∙ ends))
      | inr other ↦ rw other refl
    ]

element_ends_proof : (rest : List ℕ) → EndsElement rest → EndsProof rest
element_ends_proof [] ends = refl
element_ends_proof (b ∷ rest) ends = comma_or_bracket b (λ c. (is_name_byte c || eqb c 32) ≡ false) ends refl refl

number_again : (n : ℕ) (rest : List ℕ) → IsPlaceOfAtom n → begins is_ascii_digit rest ≡ false → natural_at 64 (numeral n ++ rest) ≡ Some (n, rest)
number_again n rest small stops = natural_again 64 n rest small (omega arith) stops

three : (a b c rest : List ℕ) → ((a ++ b) ++ c) ++ rest ≡ a ++ (b ++ (c ++ rest))
three a b c rest = simp append_assoc

five : (a b c d e rest : List ℕ) → ((((a ++ b) ++ c) ++ d) ++ e) ++ rest ≡ a ++ (b ++ (c ++ (d ++ (e ++ rest))))
five a b c d e rest = simp append_assoc

seven : (a b c d e f g rest : List ℕ) → ((((((a ++ b) ++ c) ++ d) ++ e) ++ f) ++ g) ++ rest ≡ a ++ (b ++ (c ++ (d ++ (e ++ (f ++ (g ++ rest))))))
seven a b c d e f g rest = simp append_assoc

each : {X : Type 0} (P Q : X → Type 0) (step : (x : X) → P x → Q x) (xs : List X) → AllByRecursion P xs → AllByRecursion Q xs
each P Q step [] all = tt
each P Q step (x ∷ xs) all = (step x all.0, each P Q step xs all.1)

-- ---- factors and places

factor_parts : (f : Factor) (rest : List ℕ) → IsWritableFactor f → EndsWord rest → factor_at (numeral f.atom ++ (codes ":" ++ (signed_numeral f.factor ++ rest))) ≡ Some (f, rest)
unfolding factor_at
factor_parts f rest is ends =
    let a = signed_numeral f.factor ++ rest in
    rw (number_again f.atom (codes ":" ++ a) is.0 refl, behind_again (codes ":") a, integer_again f.factor rest is.1 (digit_ends rest ends)) refl

factor_opens : (f : Factor) (rest : List ℕ) → begins (λ b. eqb b 93) (printed_factor f ++ rest) ≡ false
factor_opens f rest =
    rw (three (numeral f.atom) (codes ":") (signed_numeral f.factor) rest)
    (first_not 93 (numeral f.atom) (codes ":" ++ (signed_numeral f.factor ++ rest)) (numeral_begins f.atom) refl)

factor_again : (f : Factor) → IsWritableFactor f → IsReadAgain factor_at printed_factor f
factor_again f is = record {
  again = λ rest ends. ap factor_at (three (numeral f.atom) (codes ":") (signed_numeral f.factor) rest) ∙ factor_parts f rest is (element_ends rest ends);
  opens = λ rest. factor_opens f rest;
}

place_again : (n : ℕ) → IsPlaceOfAtom n → IsReadAgain (natural_at 64) numeral n
place_again n small = record {
  again = λ rest ends. number_again n rest small (digit_ends rest (element_ends rest ends));
  opens = λ rest. first_not 93 (numeral n) rest (numeral_begins n) refl;
}

factors_again : (fs : List Factor) (rest : List ℕ) → AllByRecursion IsWritableFactor fs
    → factors_at ((codes "[" ++ join_by printed_factor (codes ", ") fs ++ codes "]") ++ rest) ≡ Some (fs, rest)
factors_again fs rest all = bracketed_again factor_at printed_factor fs rest (each IsWritableFactor (IsReadAgain factor_at printed_factor) factor_again fs all)

places_again : (ns : List ℕ) (rest : List ℕ) → AllByRecursion IsPlaceOfAtom ns
    → places_at ((codes "[" ++ join_by numeral (codes ", ") ns ++ codes "]") ++ rest) ≡ Some (ns, rest)
places_again ns rest all = bracketed_again (natural_at 64) numeral ns rest (each IsPlaceOfAtom (IsReadAgain (natural_at 64) numeral) place_again ns all)

-- ---- leaves

abbrev bracketed_factors : List Factor → List ℕ
bracketed_factors fs = codes "[" ++ join_by printed_factor (codes ", ") fs ++ codes "]"

abbrev bracketed_places : List ℕ → List ℕ
bracketed_places ns = codes "[" ++ join_by numeral (codes ", ") ns ++ codes "]"

sum_again : (fs : List Factor) (rest : List ℕ) → AllByRecursion IsWritableFactor fs → sum_at (bracketed_factors fs ++ rest) ≡ Some (sum_of fs, rest)
unfolding sum_at
sum_again fs rest all = rw (factors_again fs rest all) refl

false_again : (n : ℕ) (rest : List ℕ) → IsPlaceOfAtom n → EndsProof rest → false_at (numeral n ++ rest) ≡ Some (pure.false_at n, rest)
unfolding false_at
false_again n rest is ends = rw (number_again n rest is (no_digit rest ends)) refl

not_again : (n : ℕ) (rest : List ℕ) → IsPlaceOfAtom n → EndsProof rest → not_at (numeral n ++ rest) ≡ Some (ChainEnd.Not n, rest)
unfolding not_at
not_again n rest is ends = rw (number_again n rest is (no_digit rest ends)) refl

kind_alone : (n : ℕ) (rest : List ℕ) → IsPlaceOfAtom n → EndsProof rest → kind_at (numeral n ++ rest) ≡ Some (ChainEnd.Kind n, rest)
unfolding kind_at
kind_alone n rest is ends = rw (number_again n rest is (no_digit rest ends), no_blank rest ends) refl

both_again : (m n : ℕ) (rest : List ℕ) → IsPlaceOfAtom n → EndsProof rest → both_at m (numeral n ++ rest) ≡ Some (ChainEnd.BothKinds m n, rest)
unfolding both_at
both_again m n rest is ends = rw (number_again n rest is (no_digit rest ends)) refl

kinds_again : (m n : ℕ) (rest : List ℕ) → IsPlaceOfAtom m → IsPlaceOfAtom n → EndsProof rest
    → kind_at (numeral m ++ (codes " " ++ (numeral n ++ rest))) ≡ Some (ChainEnd.BothKinds m n, rest)
unfolding kind_at
kinds_again m n rest first second ends =
    let a = numeral n ++ rest in
    rw (number_again m (codes " " ++ a) first refl, behind_again (codes " ") a, both_again m n rest second ends) refl

not_heading : (t : List ℕ) → end_at (codes "not " ++ t) ≡ not_at t
unfolding behind
not_heading t = refl

kind_heading : (t : List ℕ) → end_at (codes "kind " ++ t) ≡ kind_at t
unfolding behind
kind_heading t = refl

end_again : (end : ChainEnd) (rest : List ℕ) → IsWritableEnd end → EndsProof rest → end_at (printed_end end ++ rest) ≡ Some (end, rest)
unfolding behind
end_again ChainEnd.Literals rest is ends = refl
end_again ChainEnd.Kinds rest is ends = refl
end_again ChainEnd.Fresh rest is ends = refl
end_again (ChainEnd.Not n) rest is ends = not_heading (numeral n ++ rest) ∙ not_again n rest is ends
end_again (ChainEnd.Kind n) rest is ends = kind_heading (numeral n ++ rest) ∙ kind_alone n rest is ends
end_again (ChainEnd.BothKinds m n) rest is ends =
    kind_heading (((numeral m ++ codes " ") ++ numeral n) ++ rest) ∙ ap kind_at (three (numeral m) (codes " ") (numeral n) rest) ∙ kinds_again m n rest is.0 is.1 ends

chain_parts : (ns : List ℕ) (end : ChainEnd) (rest : List ℕ) → AllByRecursion IsPlaceOfAtom ns → IsWritableEnd end → EndsProof rest
    → chain_at (bracketed_places ns ++ (codes " " ++ (printed_end end ++ rest))) ≡ Some (chain ns end, rest)
unfolding chain_at
chain_parts ns end rest all is ends =
    let a = printed_end end ++ rest in
    rw (places_again ns (codes " " ++ a) all, behind_again (codes " ") a, end_again end rest is ends) refl

meet_parts : (i j k : ℕ) (rest : List ℕ) → IsWritableProof (pure.meet_at i j k) → EndsProof rest
    → meet_at (numeral i ++ (codes " " ++ (numeral j ++ (codes " " ++ (numeral k ++ rest))))) ≡ Some (pure.meet_at i j k, rest)
unfolding meet_at
meet_parts i j k rest is ends =
    let a = numeral k ++ rest in
    let b = numeral j ++ (codes " " ++ a) in
    rw (
      number_again i (codes " " ++ b) is.0 refl,
      behind_again (codes " ") b,
      number_again j (codes " " ++ a) is.1 refl,
      behind_again (codes " ") a,
      number_again k rest is.2 (no_digit rest ends),
    ) refl

-- ---- first words

module _ (read : List ℕ → Reading PureNamedProof) (t : List ℕ) where
  sum_heading : worded_at read (codes "sum " ++ t) ≡ sum_at t
  unfolding behind
  sum_heading = refl

  false_heading : worded_at read (codes "false " ++ t) ≡ false_at t
  unfolding behind
  false_heading = refl

  chain_heading : worded_at read (codes "chain " ++ t) ≡ chain_at t
  unfolding behind
  chain_heading = refl

  meet_heading : worded_at read (codes "meet " ++ t) ≡ meet_at t
  unfolding behind
  meet_heading = refl

  cases_heading : worded_at read (codes "cases " ++ t) ≡ cases_at read t
  unfolding behind
  cases_heading = refl

  values_heading : worded_at read (codes "values " ++ t) ≡ values_at read t
  unfolding behind
  values_heading = refl

  parts_heading : worded_at read (codes "parts " ++ t) ≡ parts_at read t
  unfolding behind
  parts_heading = refl

  differ_heading : worded_at read (codes "differ " ++ t) ≡ differ_at read t
  unfolding behind
  differ_heading = refl

  split_heading : worded_at read (codes "split " ++ t) ≡ split_at read t
  unfolding behind
  split_heading = refl

-- ---- proofs with parts

abbrev pub to_list : PureNamedProofs → List PureNamedProof
to_list no_proofs = []
to_list (proof_and p ps) = p ∷ to_list ps

from_list-to_list : (ps : PureNamedProofs) → from_list (to_list ps) ≡ ps
from_list-to_list no_proofs = refl
from_list-to_list (proof_and p ps) = ap (proof_and p) (from_list-to_list ps)

more_printed : (ps : PureNamedProofs) → flat_map (λ text. codes ", " ++ text) (printed_proofs ps) ≡ flat_map (λ p. codes ", " ++ printed_proof p) (to_list ps)
more_printed no_proofs = refl
more_printed (proof_and p ps) = ap (λ rest. (codes ", " ++ printed_proof p) ++ rest) (more_printed ps)

joined_printed : (ps : PureNamedProofs) → join_by (λ printed. printed) (codes ", ") (printed_proofs ps) ≡ join_by printed_proof (codes ", ") (to_list ps)
joined_printed no_proofs = refl
joined_printed (proof_and p ps) = ap (λ rest. printed_proof p ++ rest) (more_printed ps)

-- what a proof is read as
abbrev Reads : (List ℕ → Reading PureNamedProof) → PureNamedProof → Type 0
Reads read p = (rest : List ℕ) → EndsProof rest → read (printed_proof p ++ rest) ≡ Some (p, rest)

module _ (read : List ℕ → Reading PureNamedProof) where
  branches_parts : (ps : PureNamedProofs) (rest : List ℕ) → AllByRecursion (IsReadAgain read printed_proof) (to_list ps)
      → branches_at read (32 ∷ ((codes "[" ++ join_by printed_proof (codes ", ") (to_list ps) ++ codes "]") ++ rest)) ≡ Some (to_list ps, rest)
  unfolding branches_at
  branches_parts ps rest all =
      let inner = (codes "[" ++ join_by printed_proof (codes ", ") (to_list ps) ++ codes "]") ++ rest in
      rw (behind_again (32 ∷ []) inner) (bracketed_again read printed_proof (to_list ps) rest all)

  branches_again : (ps : PureNamedProofs) (rest : List ℕ) → AllByRecursion (IsReadAgain read printed_proof) (to_list ps)
      → branches_at read (in_brackets (printed_proofs ps) ++ rest) ≡ Some (to_list ps, rest)
  branches_again ps rest all =
      ap (λ joined. branches_at read (32 ∷ ((codes "[" ++ joined ++ codes "]") ++ rest))) (joined_printed ps) ∙ branches_parts ps rest all

  cases_parts : (e : PureExpr) (ps : PureNamedProofs) (rest : List ℕ) → IsWritableExpr e → AllByRecursion (IsReadAgain read printed_proof) (to_list ps)
      → cases_at read (printed_expr e ++ (in_brackets (printed_proofs ps) ++ rest)) ≡ Some (cases_of e ps, rest)
  unfolding cases_at
  cases_parts e ps rest is all =
      rw (expressions_again e (in_brackets (printed_proofs ps) ++ rest) is refl, branches_again ps rest all, from_list-to_list ps) refl

  values_parts : (n : ℕ) (ps : PureNamedProofs) (rest : List ℕ) → IsPlaceOfAtom n → AllByRecursion (IsReadAgain read printed_proof) (to_list ps)
      → values_at read (numeral n ++ (in_brackets (printed_proofs ps) ++ rest)) ≡ Some (pure.values_at n ps, rest)
  unfolding values_at
  values_parts n ps rest is all =
      rw (number_again n (in_brackets (printed_proofs ps) ++ rest) is refl, branches_again ps rest all, from_list-to_list ps) refl

  differ_parts : (n : ℕ) (ps : PureNamedProofs) (rest : List ℕ) → IsPlaceOfAtom n → AllByRecursion (IsReadAgain read printed_proof) (to_list ps)
      → differ_at read (numeral n ++ (in_brackets (printed_proofs ps) ++ rest)) ≡ Some (pure.differ_at n ps, rest)
  unfolding differ_at
  differ_parts n ps rest is all =
      rw (number_again n (in_brackets (printed_proofs ps) ++ rest) is refl, branches_again ps rest all, from_list-to_list ps) refl

  apart_parts : (n : ℕ) (rest : List ℕ) → IsPlaceOfAtom n → EndsProof rest → parts_at read (numeral n ++ rest) ≡ Some (parts_apart n, rest)
  unfolding parts_at
  apart_parts n rest is ends = rw (number_again n rest is (no_digit rest ends), no_blank rest ends) refl

  from_parts : (n : ℕ) (p : PureNamedProof) (rest : List ℕ) → Reads read p → EndsProof rest → from_elements_at read n (printed_proof p ++ rest) ≡ Some (pure.parts_at n p, rest)
  unfolding from_elements_at
  from_parts n p rest again ends = rw (again rest ends) refl

  parts_parts : (n : ℕ) (p : PureNamedProof) (rest : List ℕ) → IsPlaceOfAtom n → Reads read p → EndsProof rest
      → parts_at read (numeral n ++ (codes " " ++ (printed_proof p ++ rest))) ≡ Some (pure.parts_at n p, rest)
  unfolding parts_at
  parts_parts n p rest is again ends =
      let a = printed_proof p ++ rest in
      rw (number_again n (codes " " ++ a) is refl, behind_again (codes " ") a, from_parts n p rest again ends) refl

  split_parts : (e : PureExpr) (p q : PureNamedProof) (rest : List ℕ) → IsWritableExpr e → Reads read p → Reads read q
      → split_at read (printed_expr e ++ (codes " (" ++ (printed_proof p ++ (codes ") (" ++ (printed_proof q ++ (codes ")" ++ rest)))))) ≡ Some (split_on e p q, rest)
  unfolding split_at
  split_parts e p q rest is first second =
      let a = printed_proof q ++ (codes ")" ++ rest) in
      let b = printed_proof p ++ (codes ") (" ++ a) in
      rw (
        expressions_again e (codes " (" ++ b) is refl,
        behind_again (codes " (") b,
        first (codes ") (" ++ a) refl,
        behind_again (codes ") (") a,
        second (codes ")" ++ rest) refl,
        behind_again (codes ")") rest,
      ) refl

-- ---- how deep proofs are nested in one

abbrev mutual
  depth : PureNamedProof → ℕ
  depth (sum_of fs) = 0
  depth (pure.false_at i) = 0
  depth (chain is end) = 0
  depth (cases_of e ps) = 1 + depths ps
  depth (pure.values_at i ps) = 1 + depths ps
  depth (parts_apart i) = 0
  depth (pure.parts_at i p) = 1 + depth p
  depth (pure.differ_at i ps) = 1 + depths ps
  depth (split_on e p q) = 1 + (depth p + depth q)
  depth (pure.meet_at i j k) = 0

  depths : PureNamedProofs → ℕ
  depths no_proofs = 0
  depths (proof_and p ps) = depth p + depths ps

proof_opens : (p : PureNamedProof) (rest : List ℕ) → begins (λ b. eqb b 93) (printed_proof p ++ rest) ≡ false
proof_opens (sum_of fs) rest = refl
proof_opens (pure.false_at i) rest = refl
proof_opens (chain is end) rest = refl
proof_opens (cases_of e ps) rest = refl
proof_opens (pure.values_at i ps) rest = refl
proof_opens (parts_apart i) rest = refl
proof_opens (pure.parts_at i p) rest = refl
proof_opens (pure.differ_at i ps) rest = refl
proof_opens (split_on e p q) rest = refl
proof_opens (pure.meet_at i j k) rest = refl

at_depth : (n : ℕ) (p : PureNamedProof) (rest : List ℕ) → worded_at (proof_at n) (printed_proof p ++ rest) ≡ Some (p, rest) → proof_at (suc n) (printed_proof p ++ rest) ≡ Some (p, rest)
unfolding proof_at
at_depth n p rest is = is

grouped_chain : (joined end rest : List ℕ) → ((joined ++ codes "] ") ++ end) ++ rest ≡ (joined ++ codes "]") ++ (codes " " ++ (end ++ rest))
grouped_chain joined end rest =
    append_assoc (joined ++ codes "] ") end rest ∙ append_assoc joined (codes "] ") (end ++ rest) ∙ sym (append_assoc joined (codes "]") (codes " " ++ (end ++ rest)))

two : (a b rest : List ℕ) → (a ++ b) ++ rest ≡ a ++ (b ++ rest)
two a b rest = append_assoc a b rest

mutual
  proof_again : (n : ℕ) (p : PureNamedProof) (rest : List ℕ) → depth p < n → IsWritableProof p → EndsProof rest → proof_at n (printed_proof p ++ rest) ≡ Some (p, rest)
  proof_again zero p rest lt is ends = absurd (omega arith)
  proof_again (suc n) (sum_of fs) rest lt is ends =
      at_depth n (sum_of fs) rest (sum_heading (proof_at n) (bracketed_factors fs ++ rest) ∙ sum_again fs rest is)
  proof_again (suc n) (pure.false_at i) rest lt is ends =
      at_depth n (pure.false_at i) rest (false_heading (proof_at n) (numeral i ++ rest) ∙ false_again i rest is ends)
  proof_again (suc n) (chain ns end) rest lt is ends =
      at_depth n (chain ns end) rest (ap (λ t. worded_at (proof_at n) (codes "chain [" ++ t)) (grouped_chain (join_by numeral (codes ", ") ns) (printed_end end) rest)
      ∙ chain_heading (proof_at n) (bracketed_places ns ++ (codes " " ++ (printed_end end ++ rest))) ∙ chain_parts ns end rest is.0 is.1 ends)
  proof_again (suc n) (cases_of e ps) rest lt is ends =
      at_depth n (cases_of e ps) rest (ap (λ t. worded_at (proof_at n) (codes "cases " ++ t)) (two (printed_expr e) (in_brackets (printed_proofs ps)) rest)
      ∙ cases_heading (proof_at n) (printed_expr e ++ (in_brackets (printed_proofs ps) ++ rest))
      ∙ cases_parts (proof_at n) e ps rest is.0 (all_again n ps (omega arith) is.1))
  proof_again (suc n) (pure.values_at i ps) rest lt is ends =
      at_depth n (pure.values_at i ps) rest (ap (λ t. worded_at (proof_at n) (codes "values " ++ t)) (two (numeral i) (in_brackets (printed_proofs ps)) rest)
      ∙ values_heading (proof_at n) (numeral i ++ (in_brackets (printed_proofs ps) ++ rest))
      ∙ values_parts (proof_at n) i ps rest is.0 (all_again n ps (omega arith) is.1))
  proof_again (suc n) (parts_apart i) rest lt is ends =
      at_depth n (parts_apart i) rest (parts_heading (proof_at n) (numeral i ++ rest) ∙ apart_parts (proof_at n) i rest is ends)
  proof_again (suc n) (pure.parts_at i p) rest lt is ends =
      at_depth n (pure.parts_at i p) rest (ap (λ t. worded_at (proof_at n) (codes "parts " ++ t)) (three (numeral i) (codes " ") (printed_proof p) rest)
      ∙ parts_heading (proof_at n) (numeral i ++ (codes " " ++ (printed_proof p ++ rest)))
      ∙ parts_parts (proof_at n) i p rest is.0 (λ after stops. proof_again n p after (omega arith) is.1 stops) ends)
  proof_again (suc n) (pure.differ_at i ps) rest lt is ends =
      at_depth n (pure.differ_at i ps) rest (ap (λ t. worded_at (proof_at n) (codes "differ " ++ t)) (two (numeral i) (in_brackets (printed_proofs ps)) rest)
      ∙ differ_heading (proof_at n) (numeral i ++ (in_brackets (printed_proofs ps) ++ rest))
      ∙ differ_parts (proof_at n) i ps rest is.0 (all_again n ps (omega arith) is.1))
  proof_again (suc n) (split_on e p q) rest lt is ends =
      at_depth n (split_on e p q) rest (ap (λ t. worded_at (proof_at n) (codes "split " ++ t))
      (append_assoc (((((printed_expr e ++ codes " (") ++ printed_proof p) ++ codes ") (") ++ printed_proof q)) (codes ")") rest
      ∙ five (printed_expr e) (codes " (") (printed_proof p) (codes ") (") (printed_proof q) (codes ")" ++ rest))
      ∙ split_heading (proof_at n) (printed_expr e ++ (codes " (" ++ (printed_proof p ++ (codes ") (" ++ (printed_proof q ++ (codes ")" ++ rest))))))
      ∙ split_parts (proof_at n) e p q rest is.0 (λ after stops. proof_again n p after (omega arith) is.1 stops) (λ after stops. proof_again n q after (omega arith) is.2 stops))
  proof_again (suc n) (pure.meet_at i j k) rest lt is ends =
      at_depth n (pure.meet_at i j k) rest (ap (λ t. worded_at (proof_at n) (codes "meet " ++ t)) (five (numeral i) (codes " ") (numeral j) (codes " ") (numeral k) rest)
      ∙ meet_heading (proof_at n) (numeral i ++ (codes " " ++ (numeral j ++ (codes " " ++ (numeral k ++ rest)))))
      ∙ meet_parts i j k rest is ends)

  all_again : (n : ℕ) (ps : PureNamedProofs) → depths ps < n → AreWritableProofs ps → AllByRecursion (IsReadAgain (proof_at n) printed_proof) (to_list ps)
  all_again n no_proofs lt is = tt
  all_again n (proof_and p ps) lt is =
      (record { again = λ rest ends. proof_again n p rest (omega arith) is.0 (element_ends_proof rest ends); opens = λ rest. proof_opens p rest }, all_again n ps (omega arith) is.1)

-- ---- as deep as the bytes are many

length_branches : (ps : PureNamedProofs) → length (flat_map (λ text. codes ", " ++ text) (printed_proofs ps)) ≤ length (in_brackets (printed_proofs ps))
length_branches no_proofs = omega arith
length_branches (proof_and p ps) =
    omega (
      arith,
      length-append (codes ", " ++ printed_proof p) (flat_map (λ text. codes ", " ++ text) (printed_proofs ps)),
      length-append (codes ", ") (printed_proof p),
      length-append (printed_proof p) (flat_map (λ text. codes ", " ++ text) (printed_proofs ps)),
      length-append (join_by (λ printed. printed) (codes ", ") (printed_proofs (proof_and p ps))) (codes "]"),
    )

mutual
  depth_length : (p : PureNamedProof) → depth p + 4 ≤ length (printed_proof p)
  depth_length (sum_of fs) = omega arith
  depth_length (pure.false_at i) = omega arith
  depth_length (chain ns end) = omega arith
  depth_length (cases_of e ps) = omega (arith, depths_length ps, length_branches ps, length-append (printed_expr e) (in_brackets (printed_proofs ps)))
  depth_length (pure.values_at i ps) = omega (arith, depths_length ps, length_branches ps, length-append (numeral i) (in_brackets (printed_proofs ps)))
  depth_length (parts_apart i) = omega arith
  depth_length (pure.parts_at i p) =
      omega (
        arith,
        depth_length p,
        length-append (numeral i) (codes " "),
        length-append (numeral i ++ codes " ") (printed_proof p),
      )
  depth_length (pure.differ_at i ps) = omega (arith, depths_length ps, length_branches ps, length-append (numeral i) (in_brackets (printed_proofs ps)))
  depth_length (split_on e p q) =
      omega (
        arith,
        depth_length p,
        depth_length q,
        length-append (printed_expr e) (codes " ("),
        length-append (printed_expr e ++ codes " (") (printed_proof p),
        length-append ((printed_expr e ++ codes " (") ++ printed_proof p) (codes ") ("),
        length-append (((printed_expr e ++ codes " (") ++ printed_proof p) ++ codes ") (") (printed_proof q),
        length-append ((((printed_expr e ++ codes " (") ++ printed_proof p) ++ codes ") (") ++ printed_proof q) (codes ")"),
      )
  depth_length (pure.meet_at i j k) = omega arith

  depths_length : (ps : PureNamedProofs) → depths ps ≤ length (flat_map (λ text. codes ", " ++ text) (printed_proofs ps))
  depths_length no_proofs = omega arith
  depths_length (proof_and p ps) =
      omega (
        arith,
        depth_length p,
        depths_length ps,
        length-append (codes ", ") (printed_proof p),
        length-append (codes ", " ++ printed_proof p) (flat_map (λ text. codes ", " ++ text) (printed_proofs ps)),
      )

pub proofs_again : ProofsAgain
proofs_again p rest is ends =
    proof_again (length (printed_proof p ++ rest) + 1) p rest (omega (arith, depth_length p, length-append (printed_proof p) rest)) is ends
