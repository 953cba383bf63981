-- The steps of the loops over cells, and lists joined one after another.
use Rattle.std.proofs.Common.{◌≡◌, ℕ, zero, suc, ◌+◌, ◌-◌, ◌<◌, ◌≤◌, ℤ, pos, List, [], ◌∷◌, ◌++◌, map, length, Bool, true, false, refl, sym, ap, ◌∙◌, arith}
use Rattle.std.specs.List.{flat_map, remove}
use Rattle.std.proofs.lemmas.List.{append_assoc, append-nil}
use Rattle.gil_values.specs.Pure.{integer}
use Rattle.block_heap.specs.Table.{count_of}
use Rattle.block_sym.specs.Table.{number, cell_subs, new_cells, elsewhere, taken_by_bound}
use Rattle.pure_terms.specs.declared.variables.Var.{Var}
use Rattle.pure_terms.specs.Pure.{PureTerm, variable}
use Rattle.sym_chunks.specs.Cases.{PureCase, case_of, true_term}
use Rattle.sym_chunks.specs.Walking.{PureWay, way_of, missing_key, next_ways, all_taken, walk}
use Rattle.sym_model.specs.Alternatives.{same}
use Rattle.sym_model.specs.Cores.{zero_term}
use Rattle.sym_model.specs.Pure.{PureSub, cell, gone, PureChunk, done}

pub no_items : {X Y : Type 0} (f : X → Y) (xs : List X) → length xs ≡ 0 → map f xs ≡ []
no_items f [] is = refl
no_items f (x ∷ xs) is = absurd (omega (arith, is))

-- without ways a walk comes to nothing
pub no_ways : (cs : List PureChunk) (l : PureTerm) (ss : List PureSub) → walk cs l ss [] ≡ []
no_ways cs l [] = refl
no_ways cs l (s ∷ ss) = no_ways cs l ss

pub walk_ends : (cs : List PureChunk) (l : PureTerm) (ss : List PureSub) (ws : List PureWay) (cases whole : List PureCase) → ws ≡ [] → cases ++ walk cs l ss ws ≡ whole → cases ≡ whole
walk_ends cs l ss ws cases whole none so_far = sym (append-nil cases) ∙ ap (λ x. cases ++ x) (sym (no_ways cs l ss)) ∙ ap (λ x. cases ++ walk cs l ss x) (sym none) ∙ so_far

one_fewer : (i n : ℕ) → i < n → n - i ≡ suc (n - (i + 1))
one_fewer i n below = omega (arith, below)

pub walk_on : (cs : List PureChunk) (l : PureTerm) (i n : ℕ) (ws next : List PureWay) (cases more whole : List PureCase) → i < n → cases ++ walk cs l (cell_subs i (n - i)) ws ≡ whole
    → more ≡ cases ++ flat_map (missing_key cs l (cell (number (pos i)))) ws → next ≡ flat_map (next_ways l (cell (number (pos i)))) ws → more ++ walk cs l (cell_subs (i + 1) (n - (i + 1))) next ≡ whole
walk_on cs l i n ws next cases more whole below so_far added went =
    (λ j. added j ++ walk cs l (cell_subs (i + 1) (n - (i + 1))) (went j))
    ∙ append_assoc cases (flat_map (missing_key cs l (cell (number (pos i)))) ws) (walk cs l (cell_subs (i + 1) (n - (i + 1))) (flat_map (next_ways l (cell (number (pos i)))) ws))
    ∙ ap (λ m. cases ++ walk cs l (cell_subs i m) ws) (sym (one_fewer i n below))
    ∙ so_far

none_left : (i n : ℕ) → n ≤ i → n - i ≡ 0
none_left i n past = omega (arith, past)

pub walk_done : (cs : List PureChunk) (l : PureTerm) (i n : ℕ) (ws : List PureWay) (cases whole : List PureCase) → n ≤ i → cases ++ walk cs l (cell_subs i (n - i)) ws ≡ whole → cases ++ flat_map (all_taken l) ws ≡ whole
walk_done cs l i n ws cases whole past so_far = ap (λ m. cases ++ walk cs l (cell_subs i m) ws) (sym (none_left i n past)) ∙ so_far

pub cells_on : (x : Var) (i n : ℕ) (made next whole : List PureChunk) → i < n → made ++ new_cells x i (n - i) ≡ whole → next ≡ made ++ record { loc = variable x; sub = cell (number (pos i)); val = zero_term } ∷ [] → next ++ new_cells x (i + 1) (n - (i + 1)) ≡ whole
cells_on x i n made next whole below so_far added =
    ap (λ cs. cs ++ new_cells x (i + 1) (n - (i + 1))) added
    ∙ append_assoc made (record { loc = variable x; sub = cell (number (pos i)); val = zero_term } ∷ []) (new_cells x (i + 1) (n - (i + 1)))
    ∙ ap (λ m. made ++ new_cells x i m) (sym (one_fewer i n below))
    ∙ so_far

pub joined_two : {X : Type 0} (x0 x1 bs a b : List X) → x1 ≡ x0 ++ a → bs ≡ x1 ++ b → bs ≡ x0 ++ (a ++ b)
joined_two x0 x1 bs a b first second = second ∙ ap (λ x. x ++ b) first ∙ append_assoc x0 a b

pub joined_three : {X : Type 0} (x0 x1 x2 bs a b c : List X) → x1 ≡ x0 ++ a → x2 ≡ x1 ++ b → bs ≡ x2 ++ c → bs ≡ x0 ++ (a ++ (b ++ c))
joined_three x0 x1 x2 bs a b c first second third =
    third ∙ ap (λ x. x ++ c) (second ∙ ap (λ x. x ++ b) first) ∙ append_assoc (x0 ++ a) b c ∙ append_assoc x0 a (b ++ c)

-- ---- whole blocks

-- no case comes where the location surely is another one
pub none_taken : (t : Bool) (l m : PureTerm) (cs : List PureChunk) (i : ℕ) (n : ℤ) → same l m ≡ [] → taken_by_bound t l cs i m n ≡ []
none_taken true l m cs i n none = ap (λ x. case_of x (elsewhere m cs ++ record { loc = m; sub = gone; val = true_term } ∷ []) (done true_term)) none
none_taken false l m cs i n none = ap (λ x. walk cs m (cell_subs 0 (count_of (integer n))) (way_of x (remove cs i))) none ∙ no_ways cs m (cell_subs 0 (count_of (integer n)))
