-- Statements in order, one more at a time, and how large statements are.
use Rattle.std.proofs.Common.{◌≡◌, ℕ, zero, suc, ◌+◌, ◌<◌, ◌≤◌, List, [], ◌∷◌, ◌++◌, map, take, get_or, length, rules, Some, slice_get, refl, sym, ap, subst, ◌∙◌, arith, append_assoc, length-append}
use Rattle.std.specs.Prelude.{max}
use Rattle.std.proofs.lemmas.List.{append-nil}
use Rattle.gil_values.proofs.Lists.{slice_get-read}
use Rattle.gil_syntax.proofs.NameLemmas.{map-take_read}
use Rattle.while_lang.specs.declared.tree.PlacedStatement.{PlacedStatement, the_lemmas}
use Rattle.while_lang.specs.View.{statement_view, placed_view}
use Rattle.while_lang.specs.Pure.{PureStatement, if_else, while, PureBlock, no_statements, statement_and, PurePlacedStatement, from_placed}
use Rattle.while_compiler.specs.Compiled.{statement_code, block_code, statement_temporaries, block_temporaries}

-- how many statements stand in a statement, itself among them
abbrev mutual
  pub statement_count : PureStatement → ℕ
  statement_count (if_else e body other) = suc (block_count body + block_count other)
  statement_count (while e invariant body) = suc (block_count body)
  statement_count _ = 1

  pub block_count : PureBlock → ℕ
  block_count no_statements = 0
  block_count (statement_and at c rest) = statement_count c + block_count rest

pub count-element : (ps : List PurePlacedStatement) (i : ℕ) (p : PurePlacedStatement) → slice_get ps i ≡ Some p
    → statement_count p.statement ≤ block_count (from_placed ps)
count-element [] i p is = absurd (cc)
count-element (r ∷ ps) zero p is = let same : r ≡ p = cc in subst
    (λ u. statement_count u.statement ≤ block_count (from_placed (r ∷ ps))) same (omega arith)
count-element (r ∷ ps) (suc i) p is = omega (arith, count-element ps i p is)

-- the commands of one more statement come after those of the others
pub code-push : (ps : List PurePlacedStatement) (p : PurePlacedStatement) (pc : ℕ)
    → block_code pc (from_placed (ps ++ p ∷ [])) ≡ block_code pc (from_placed ps) ++ statement_code
    (pc + length (block_code pc (from_placed ps))) p.at p.statement
code-push [] p pc =
    let e : pc + 0 ≡ pc = omega arith in
    append-nil (statement_code pc p.at p.statement) ∙ ap (λ n. statement_code n p.at p.statement) (sym e)
code-push (r ∷ ps) p pc =
    let here = statement_code pc r.at r.statement in
    let later = pc + length here in
    let e : later + length (block_code later (from_placed ps)) ≡ pc + length (here ++ block_code later (from_placed ps)) = omega
    (arith, length-append here (block_code later (from_placed ps))) in
    ap (λ cs. here ++ cs) (code-push ps p later ∙ ap (λ n. block_code later (from_placed ps) ++ statement_code n p.at p.statement) e)
    ∙ sym (append_assoc here (block_code later (from_placed ps)) _)

-- and so do its temporaries
pub temporaries-push : (ps : List PurePlacedStatement) (p : PurePlacedStatement)
    → block_temporaries (from_placed (ps ++ p ∷ [])) ≡ max (statement_temporaries p.statement) (block_temporaries (from_placed ps))
temporaries-push [] p = refl
temporaries-push (r ∷ ps) p = omega (arith, temporaries-push ps p)

placed-seen : (x : PlacedStatement) → placed_view x ≡ record { at = x.at; statement = statement_view x.statement }
placed-seen x = search (rules, the_lemmas)

module _ (items : List PlacedStatement) (i : ℕ) (x : PlacedStatement) (below : i < length items) (is : x ≡ get_or items i x) where
  taken : map placed_view (take (i + 1) items) ≡ map placed_view (take i items) ++ record {
    at = x.at;
    statement = statement_view x.statement;
  } ∷ []
  taken = map-take_read placed_view items i x below is ∙ ap (λ p. map placed_view (take i items) ++ p ∷ []) (placed-seen x)

  pub code-next : (pc : ℕ) → block_code pc (from_placed (map placed_view (take (i + 1) items))) ≡ block_code pc
      (from_placed (map placed_view (take i items))) ++ statement_code
      (pc + length (block_code pc (from_placed (map placed_view (take i items))))) x.at (statement_view x.statement)
  code-next pc = ap (λ ps. block_code pc (from_placed ps)) taken ∙ code-push (map placed_view (take i items)) _ pc

  pub temporaries-next : block_temporaries (from_placed (map placed_view (take (i + 1) items))) ≡ max
      (statement_temporaries (statement_view x.statement)) (block_temporaries (from_placed (map placed_view (take i items))))
  temporaries-next = ap (λ ps. block_temporaries (from_placed ps)) taken ∙ temporaries-push (map placed_view (take i items)) _

  pub count-read : (ps : List PurePlacedStatement) → map placed_view items ≡ ps
      → statement_count (statement_view x.statement) ≤ block_count (from_placed ps)
  count-read ps seen = count-element ps i (record { at = x.at; statement = statement_view x.statement })
      (subst (λ qs. slice_get qs i ≡ Some (record { at = x.at; statement = statement_view x.statement })) seen
      (slice_get-read placed_view items i x below is ∙ ap Some (placed-seen x)))
