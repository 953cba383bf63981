-- Statements in order, one more at a time, and how large statements are.
use Rattle.std.proofs.Common.{◌≡◌, ℕ, zero, suc, ◌+◌, ◌<◌, ◌≤◌, List, [], ◌∷◌, ◌++◌, map, take, get_or, length, rules, Bool, ◌||◌, Option, Some, slice_get, refl, sym, ap, subst, ◌∙◌, arith, append_assoc, length-append}
use Rattle.std.specs.Prelude.{max}
use Rattle.std.proofs.lemmas.List.{append-nil}
use Rattle.std.proofs.lemmas.List.Recursion.{or_push}
use Rattle.gil_values.proofs.Lists.{slice_get-read}
use Rattle.gil_syntax.proofs.NameLemmas.{map-take_read}
use Rattle.source_statements.specs.Codes.{Codes}
use Rattle.source_statements.specs.Compiled.{statement_code, block_code, statement_temporaries, block_temporaries, statement_tries, block_tries, statement_throws, block_throws}
use Rattle.source_statements.specs.Lengths.{statement_length, block_length}
use Rattle.source_statements.specs.Items.{statements}
use Rattle.source_statements.specs.Pure.{PureStatement, if_else, while, try_catch, PureBlock, no_statements, statement_and, PurePlacedStatement, from_placed}
use Rattle.source_statements.specs.View.{statement_view, placed_view, placed_statements_view, block_view}
use Rattle.source_statements.specs.declared.tree.Block.{Block, the_lemmas as block_lemmas}
use Rattle.source_statements.specs.declared.tree.PlacedStatement.{PlacedStatement, the_lemmas}

pub take_all : {X : Type 0} (xs : List X) (i : ℕ) → length xs ≤ i → take i xs ≡ xs
take_all [] zero le = refl
take_all [] (suc i) le = refl
take_all (x ∷ xs) zero le = absurd (omega (arith, le))
take_all (x ∷ xs) (suc i) le = ap (λ ys. x ∷ ys) (take_all xs i (omega (arith, le)))

module _ {E S : Type 0} where
  -- how many statements stand in a statement, itself among them
  abbrev mutual
    pub statement_count : PureStatement E S → ℕ
    statement_count (if_else e body other) = suc (block_count body + block_count other)
    statement_count (while e invariant body) = suc (block_count body)
    statement_count (try_catch body y handler) = suc (block_count body + block_count handler)
    statement_count _ = 1

    pub block_count : PureBlock E S → ℕ
    block_count no_statements = 0
    block_count (statement_and at c rest) = statement_count c + block_count rest

  pub count-element : (ps : List (PurePlacedStatement E S)) (i : ℕ) (p : PurePlacedStatement E S) → slice_get ps i ≡ Some p
      → statement_count p.statement ≤ block_count (from_placed ps)
  count-element [] i p is = absurd (cc)
  count-element (r ∷ ps) zero p is = let same : r ≡ p = cc in subst
      (λ u. statement_count u.statement ≤ block_count (from_placed (r ∷ ps))) same (omega arith)
  count-element (r ∷ ps) (suc i) p is = omega (arith, count-element ps i p is)

  module _ (c : Codes E S) where
    -- the commands of one more statement come after those of the others
    pub code-push : (h : Option ℕ) (ps : List (PurePlacedStatement E S)) (p : PurePlacedStatement E S) (pc : ℕ)
        → block_code c h pc (from_placed (ps ++ p ∷ [])) ≡ block_code c h pc (from_placed ps) ++ statement_code c h
        (pc + length (block_code c h pc (from_placed ps))) p.at p.statement
    code-push h [] p pc =
        let e : pc + 0 ≡ pc = omega arith in
        append-nil (statement_code c h pc p.at p.statement) ∙ ap (λ n. statement_code c h n p.at p.statement) (sym e)
    code-push h (r ∷ ps) p pc =
        let here = statement_code c h pc r.at r.statement in
        let later = pc + length here in
        let e : later + length (block_code c h later (from_placed ps)) ≡ pc + length (here ++ block_code c h later (from_placed ps)) = omega
        (arith, length-append here (block_code c h later (from_placed ps))) in
        ap (λ cs. here ++ cs) (code-push h ps p later ∙ ap (λ n. block_code c h later (from_placed ps) ++ statement_code c h n p.at p.statement) e)
        ∙ sym (append_assoc here (block_code c h later (from_placed ps)) _)

    -- and so do its temporaries
    pub temporaries-push : (ps : List (PurePlacedStatement E S)) (p : PurePlacedStatement E S)
        → block_temporaries c (from_placed (ps ++ p ∷ [])) ≡ max (statement_temporaries c p.statement) (block_temporaries c (from_placed ps))
    temporaries-push [] p = refl
    temporaries-push (r ∷ ps) p = omega (arith, temporaries-push ps p)

    -- and how many they are
    pub length-push : (ps : List (PurePlacedStatement E S)) (p : PurePlacedStatement E S)
        → block_length c (from_placed (ps ++ p ∷ [])) ≡ block_length c (from_placed ps) + statement_length c p.statement
    length-push [] p = omega arith
    length-push (r ∷ ps) p = omega (arith, length-push ps p)

    -- whether one of them has a block whose throws are handled, or assigns the variable of thrown values
    pub tries-push : (ps : List (PurePlacedStatement E S)) (p : PurePlacedStatement E S)
        → block_tries c (from_placed (ps ++ p ∷ [])) ≡ (block_tries c (from_placed ps) || statement_tries c p.statement)
    tries-push ps p = or_push (λ qs. block_tries c (from_placed qs)) (λ q. statement_tries c q.statement) refl (λ q qs. refl) ps p

    pub throws-push : (handled : Bool) (ps : List (PurePlacedStatement E S)) (p : PurePlacedStatement E S)
        → block_throws c handled (from_placed (ps ++ p ∷ [])) ≡ (block_throws c handled (from_placed ps) || statement_throws c handled p.statement)
    throws-push handled ps p = or_push (λ qs. block_throws c handled (from_placed qs)) (λ q. statement_throws c handled q.statement) refl (λ q qs. refl) ps p

module _ {E S PE PS : Type 0} (e : E → PE) (s : S → PS) where
  pub placed-seen : (x : PlacedStatement E S) → placed_view e s x ≡ record { at = x.at; statement = statement_view e s x.statement }
  placed-seen x = search (rules, the_lemmas)

  pub statements-seen : (b : Block E S) → placed_statements_view e s b ≡ map (placed_view e s) (statements b)
  statements-seen b = search (rules, block_lemmas)

module _ {E S PE PS : Type 0} (e : E → PE) (s : S → PS) (items : List (PlacedStatement E S)) (i : ℕ) (x : PlacedStatement E S)
    (below : i < length items) (is : x ≡ get_or items i x) where
  taken : map (placed_view e s) (take (i + 1) items) ≡ map (placed_view e s) (take i items) ++ record {
    at = x.at;
    statement = statement_view e s x.statement;
  } ∷ []
  taken = map-take_read (placed_view e s) items i x below is ∙ ap (λ p. map (placed_view e s) (take i items) ++ p ∷ []) (placed-seen e s x)

  pub code-next : (c : Codes PE PS) (h : Option ℕ) (pc : ℕ) → block_code c h pc (from_placed (map (placed_view e s) (take (i + 1) items)))
      ≡ block_code c h pc (from_placed (map (placed_view e s) (take i items))) ++ statement_code c h
      (pc + length (block_code c h pc (from_placed (map (placed_view e s) (take i items))))) x.at (statement_view e s x.statement)
  code-next c h pc = ap (λ ps. block_code c h pc (from_placed ps)) taken ∙ code-push c h (map (placed_view e s) (take i items)) _ pc

  pub length-next : (c : Codes PE PS) → block_length c (from_placed (map (placed_view e s) (take (i + 1) items)))
      ≡ block_length c (from_placed (map (placed_view e s) (take i items))) + statement_length c (statement_view e s x.statement)
  length-next c = ap (λ ps. block_length c (from_placed ps)) taken ∙ length-push c (map (placed_view e s) (take i items)) _

  pub tries-next : (c : Codes PE PS) → block_tries c (from_placed (map (placed_view e s) (take (i + 1) items)))
      ≡ (block_tries c (from_placed (map (placed_view e s) (take i items))) || statement_tries c (statement_view e s x.statement))
  tries-next c = ap (λ ps. block_tries c (from_placed ps)) taken ∙ tries-push c (map (placed_view e s) (take i items)) _

  pub throws-next : (c : Codes PE PS) (handled : Bool) → block_throws c handled (from_placed (map (placed_view e s) (take (i + 1) items)))
      ≡ (block_throws c handled (from_placed (map (placed_view e s) (take i items))) || statement_throws c handled (statement_view e s x.statement))
  throws-next c handled = ap (λ ps. block_throws c handled (from_placed ps)) taken ∙ throws-push c handled (map (placed_view e s) (take i items)) _

  pub temporaries-next : (c : Codes PE PS) → block_temporaries c (from_placed (map (placed_view e s) (take (i + 1) items))) ≡ max
      (statement_temporaries c (statement_view e s x.statement)) (block_temporaries c (from_placed (map (placed_view e s) (take i items))))
  temporaries-next c = ap (λ ps. block_temporaries c (from_placed ps)) taken ∙ temporaries-push c (map (placed_view e s) (take i items)) _

  pub count-read : (b : Block E S) → items ≡ statements b → statement_count (statement_view e s x.statement) ≤ block_count (block_view e s b)
  count-read b all = count-element (placed_statements_view e s b) i (record { at = x.at; statement = statement_view e s x.statement })
      (subst (λ qs. slice_get qs i ≡ Some (record { at = x.at; statement = statement_view e s x.statement }))
      (ap (map (placed_view e s)) all ∙ sym (statements-seen e s b))
      (slice_get-read (placed_view e s) items i x below is ∙ ap Some (placed-seen e s x)))
