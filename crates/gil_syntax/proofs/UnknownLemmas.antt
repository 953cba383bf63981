-- Names that stand for nothing, in expressions, assertions and commands.
use Rattle.std.proofs.Common.{◌≡◌, ◌⊎◌, ⊎_elim, ℕ, List, [], ◌∷◌, map, Bool, true, false, not, ◌||◌, cond, Some, is_some, refl, sym, ap, ◌∙◌, Bor}
use Rattle.std.specs.List.{list_any}
use Rattle.std.specs.Str.{bytes_eq}
use Rattle.std.specs.HashSet as bag
use Rattle.std.specs.HashSet.{HashSet}
use Rattle.std.proofs.Math.Bool.{or-false}
use Rattle.gil_syntax.specs.declared.assertions.Item.{Item}
use Rattle.gil_syntax.specs.declared.assertions.Param.{Param}
use Rattle.gil_syntax.specs.declared.assertions.PredUse.{PredUse}
use Rattle.gil_syntax.specs.declared.commands.Command.{Command}
use Rattle.gil_syntax.specs.Pure.{PureExpr, literal, name, logical, list_of, unary_of, binary_of, PureItem, PureCommand, assign, call, act, usym, isym, ifgoto, return, fail, throw, vanish, fold_use, unfold_use, assert_that, loop_invariant, PureNumberedCommand, PureProc, PureParts}
use Rattle.gil_syntax.specs.Programs.{find_proc}
use Rattle.gil_syntax.specs.Subexpressions.{subexpressions, own_logicals, logicals_of}
use Rattle.gil_syntax.specs.Valid.{param_names, is_among, piece_of_assertion, declared_at, piece_of_command, Piece, names_undeclared, uses_unknown, predicates_of}
use Rattle.gil_syntax.specs.View.{command_view}
use Rattle.gil_syntax.specs.Found.{stands_in, stands_among, stands_in_assertion, stands_in_command}
use Rattle.gil_syntax.specs.Names.{has_name}
use Rattle.gil_syntax.specs.Sought.{is_undeclared, is_unknown_use, declared_by}
use Rattle.gil_syntax.proofs.BodyLemmas.{list_any-map}
use Rattle.gil_syntax.proofs.ExpressionLemmas.{list_any-flat_map}
use Rattle.gil_syntax.proofs.NameLemmas.{is_among-append, bytes_eq-sym, or_comm}

-- ---- pieces

module _ (declared : List ℕ → Bool) where
  own_undeclared : (n : PureExpr) → list_any (λ x. not (declared x)) (own_logicals n) ≡ is_undeclared declared n
  own_undeclared (literal v) = refl
  own_undeclared (name x) = refl
  own_undeclared (logical x) = or-false (not (declared x))
  own_undeclared (list_of es) = refl
  own_undeclared (unary_of op e) = refl
  own_undeclared (binary_of op d e) = refl

  undeclared_in : (e : PureExpr) → stands_in (is_undeclared declared) e ≡ list_any (λ x. not (declared x)) (logicals_of e)
  undeclared_in e =
      (λ j. list_any (λ n. sym (own_undeclared n) j) (subexpressions e))
      ∙ sym (list_any-flat_map (λ x. not (declared x)) own_logicals (subexpressions e))

-- what is unknown in a piece, where these are the names that it declares
unknown_piece : (p : PureParts) (known : List ℕ → Bool) (c : Piece) → known ≡ is_among c.declared
    → stands_among (is_undeclared known) (is_unknown_use p) c.exprs c.used ≡ (names_undeclared c || uses_unknown (predicates_of p) c)
unknown_piece p known c same =
    ap (λ f. stands_among (is_undeclared f) (is_unknown_use p) c.exprs c.used) same
    ∙ or_comm (uses_unknown (predicates_of p) c) (list_any (stands_in (is_undeclared (is_among c.declared))) c.exprs)
    ∙ ap (λ b. b || uses_unknown (predicates_of p) c) (λ j. list_any (λ e. undeclared_in (is_among c.declared) e j) c.exprs)

pub assertions_unknown : (p : PureParts) (known : List ℕ → Bool) (ls : List Param) → known ≡ is_among (param_names ls) → (ass : List (List PureItem))
    → list_any (stands_in_assertion (is_undeclared known) (is_unknown_use p)) ass ≡ list_any (λ c. names_undeclared c || uses_unknown (predicates_of p) c) (map (piece_of_assertion ls) ass)
assertions_unknown p known ls same ass =
    (λ j. list_any (λ items. unknown_piece p known (piece_of_assertion ls items) same j) ass)
    ∙ sym (list_any-map (λ c. names_undeclared c || uses_unknown (predicates_of p) c) (piece_of_assertion ls) ass)

-- ---- commands

declared_by-among : (logicals : List (List ℕ)) (c : PureCommand) → declared_by (is_among logicals) c ≡ is_among (declared_at logicals c)
declared_by-among logicals (assign x e) = refl
declared_by-among logicals (call x e es handler) = refl
declared_by-among logicals (act x a es) = refl
declared_by-among logicals (usym x) = refl
declared_by-among logicals (isym x k) = refl
declared_by-among logicals (ifgoto e i) = refl
declared_by-among logicals (return e) = refl
declared_by-among logicals (fail e) = refl
declared_by-among logicals (throw e) = refl
declared_by-among logicals vanish = refl
declared_by-among logicals (fold_use u) = refl
declared_by-among logicals (unfold_use u) = refl
declared_by-among logicals (assert_that items) = refl
declared_by-among logicals (loop_invariant xs ps items) = λ j x. sym (is_among-append logicals (param_names ps) x) j

pub commands_unknown : (p : PureParts) (known : List ℕ → Bool) (logicals : List (List ℕ)) → known ≡ is_among logicals → (cs : List PureNumberedCommand)
    → list_any (λ c. stands_in_command (is_undeclared (declared_by known c.command)) (is_unknown_use p) c) cs
    ≡ list_any (λ c. names_undeclared c || uses_unknown (predicates_of p) c) (map (λ c. piece_of_command logicals c.command) cs)
commands_unknown p known logicals same cs =
    (λ j. list_any (λ c. unknown_piece p (declared_by known c.command) (piece_of_command logicals c.command) (ap (λ f. declared_by f c.command) same ∙ declared_by-among logicals c.command) j) cs)
    ∙ sym (list_any-map (λ c. names_undeclared c || uses_unknown (predicates_of p) c) (λ c. piece_of_command logicals c.command) cs)

-- ---- sets of declared names

pub or_none : {S : Type 0} (f : List ℕ → Bool) (s : HashSet (Bor (List ℕ)) S) → bag.IsEmpty s → (λ (x : List ℕ). f x || has_name s x) ≡ f
or_none f s empty = λ j x. (ap (λ ks. f x || list_any (λ k. bytes_eq x k.now) ks) empty ∙ or-false (f x)) j

pub none_named : {S : Type 0} (s : HashSet (Bor (List ℕ)) S) → bag.IsEmpty s → has_name s ≡ (λ (x : List ℕ). false)
none_named s empty = λ j x. list_any (λ k. bytes_eq x k.now) (empty j)

module _ (f : List ℕ → Bool) where
  -- an invariant's own names count too
  pub named_in_invariant : {S : Type 0} (own : HashSet (Bor (List ℕ)) S) (c : PureCommand) (xs : List (List ℕ)) (ps : List Param) (items : List PureItem)
      → c ≡ loop_invariant xs ps items → has_name own ≡ is_among (param_names ps) → (λ (x : List ℕ). f x || has_name own x) ≡ declared_by f c
  named_in_invariant own c xs ps items is same = (λ j x. f x || same j x) ∙ ap (declared_by f) (sym is)

  pub named_in_logic : (c : Command) → ((u : PredUse) × (c ≡ Command.Fold u)) ⊎ (((u : PredUse) × (c ≡ Command.Unfold u)) ⊎ ((items : List Item) × (c ≡ Command.AssertThat items)))
      → f ≡ declared_by f (command_view c)
  named_in_logic c is = ⊎_elim
      (λ a. ap (λ d. declared_by f (command_view d)) (sym a.1))
      (λ r. ⊎_elim (λ a. ap (λ d. declared_by f (command_view d)) (sym a.1)) (λ a. ap (λ d. declared_by f (command_view d)) (sym a.1)) r)
      is

  pub named_elsewhere : (c : Command)
      → ((u : PredUse) → c ≡ Command.Fold u → ⊥) → ((u : PredUse) → c ≡ Command.Unfold u → ⊥) → ((items : List Item) → c ≡ Command.AssertThat items → ⊥)
      → ((xs : List (List ℕ)) (ps : List Param) (items : List Item) → c ≡ Command.LoopInvariant xs ps items → ⊥)
      → (λ (x : List ℕ). false) ≡ declared_by f (command_view c)
  named_elsewhere (Command.Assign x e) a b d e' = refl
  named_elsewhere (Command.Call x e es handler) a b d e' = refl
  named_elsewhere (Command.Act x y es) a b d e' = refl
  named_elsewhere (Command.Usym x) a b d e' = refl
  named_elsewhere (Command.Isym x k) a b d e' = refl
  named_elsewhere (Command.IfGoto e i) a b d e' = refl
  named_elsewhere (Command.Return e) a b d e' = refl
  named_elsewhere (Command.Fail e) a b d e' = refl
  named_elsewhere (Command.Throw e) a b d e' = refl
  named_elsewhere Command.Vanish a b d e' = refl
  named_elsewhere (Command.Fold u) a b d e' = absurd (a u refl)
  named_elsewhere (Command.Unfold u) a b d e' = absurd (b u refl)
  named_elsewhere (Command.AssertThat items) a b d e' = absurd (d items refl)
  named_elsewhere (Command.LoopInvariant xs ps items) a b d e' = absurd (e' xs ps items refl)

-- ---- procedures

pub is_among-procs : (qs : List PureProc) (x : List ℕ) → is_among (map (λ q. q.name) qs) x ≡ is_some (find_proc qs x)
is_among-procs [] x = refl
is_among-procs (q ∷ qs) x = ap (λ b. b || is_among (map (λ r. r.name) qs) x) (bytes_eq-sym x q.name) ∙ by (bytes_eq q.name x) (is_among-procs qs x)
  where
    by : (b : Bool) → is_among (map (λ r. r.name) qs) x ≡ is_some (find_proc qs x) → (b || is_among (map (λ r. r.name) qs) x) ≡ is_some (cond b (Some q) (find_proc qs x))
    by true rest = refl
    by false rest = rest
