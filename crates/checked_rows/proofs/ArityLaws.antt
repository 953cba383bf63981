-- The predicate of a command has the numbers of ins and outs of the command, in a valid program.
use Rattle.std.proofs.Common.{◌≡◌, ℕ, zero, suc, List, [], ◌∷◌, ◌++◌, map, length, Bool, true, false, not, ◌&&◌, ◌||◌, cond, Option, Some, None, Ok, Err, slice_get, refl, sym, ap, subst, ◌∙◌, true≢false, codes}
use Rattle.std.specs.Prelude.{◌==◌}
use Rattle.std.specs.List.{list_any}
use Rattle.std.specs.Str.{bytes_eq}
use Rattle.std.proofs.lemmas.Bool.{and_parts}
use Rattle.std.proofs.lemmas.Bool.Decides.{Decides-eqb}
use Rattle.std.proofs.lemmas.Slice.Eq.{bytes_eq-Decides}
use Rattle.gil_values.specs.Operators.{Fault, Outcome}
use Rattle.gil_values.specs.Pure.{PureValue}
use Rattle.gil_syntax.specs.declared.validity.InvalidKind.{InvalidKind}
use Rattle.gil_syntax.specs.Evaluation.{Store, Outcomes, both, evaluate, evaluate_all}
use Rattle.gil_syntax.specs.Programs.{find_proc, find_spec, find_pred}
use Rattle.gil_syntax.specs.Pure.{PureExpr, PurePredUse, PurePredDef, PureNumberedCommand, PureProc, PureParts, unfold_use}
use Rattle.gil_syntax.specs.Subexpressions.{uses_of}
use Rattle.gil_syntax.specs.Valid.{Signature, core_predicates, signature_of, predicates_of, a_proc, piece_of_command, logicals_of_spec, misuses, IsValid}
use Rattle.gil_syntax.specs.ByName.{find_signature}
use Rattle.gil_syntax.proofs.CheckLemmas.{distinct}
use Rattle.gil_syntax.proofs.PieceLemmas.{misuses-found}
use Rattle.mem_model.specs.declared.cores.Core.{Core}
use Rattle.mem_model.specs.CoreNames.{core_of}
use Rattle.sym_engine.proofs.Placing.{without_fault, neither, command_found}
use Rattle.sym_model.proofs.ListLaws.{same_some, not_none}
use Rattle.sym_paths.specs.Meaning.{command_of_frames}
use Rattle.sym_paths.specs.Pure.{PureFrame}

-- ---- the signature of a predicate of the program

all_other : (a b c d e f g : Bool) → cond a (Some Core.Prop) (cond b (Some Core.Cell) (cond c (Some Core.Shape) (cond d (Some Core.Bound) (cond e (Some Core.Dom) (cond f (Some Core.Proto) (cond g (Some Core.Gone) None)))))) ≡ None
    → (a ≡ false) × ((b ≡ false) × ((c ≡ false) × ((d ≡ false) × ((e ≡ false) × ((f ≡ false) × (g ≡ false))))))
all_other true b c d e f g is = not_none (sym is)
all_other false true c d e f g is = not_none (sym is)
all_other false false true d e f g is = not_none (sym is)
all_other false false false true e f g is = not_none (sym is)
all_other false false false false true f g is = not_none (sym is)
all_other false false false false false true g is = not_none (sym is)
all_other false false false false false false true is = not_none (sym is)
all_other false false false false false false false is = (refl, (refl, (refl, (refl, (refl, (refl, refl))))))

other_way : (x y : List ℕ) → bytes_eq x y ≡ false → bytes_eq y x ≡ false
other_way x y other = by (bytes_eq y x) refl
  where
    by : (b : Bool) → bytes_eq y x ≡ b → bytes_eq y x ≡ false
    by true same = absurd (true≢false (sym ((bytes_eq-Decides x y).1 (sym ((bytes_eq-Decides y x).0 same))) ∙ other))
    by false is = is

-- a name that is no core predicate's is found behind these
past_cores : (x : List ℕ) (gs : List Signature) → core_of x ≡ None → find_signature (core_predicates ++ gs) x ≡ find_signature gs x
past_cores x gs is =
    let (prop, (cell, (shape, (bound, (dom, (proto, gone)))))) =
    all_other (bytes_eq x (codes "prop")) (bytes_eq x (codes "cell")) (bytes_eq x (codes "shape")) (bytes_eq x (codes "bound")) (bytes_eq x (codes "dom")) (bytes_eq x (codes "proto")) (bytes_eq x (codes "gone")) is in
    λ i. cond (other_way x (codes "prop") prop i) (Some (record { name = codes "prop"; ins = 2; outs = 1 }))
    (cond (other_way x (codes "shape") shape i) (Some (record { name = codes "shape"; ins = 1; outs = 1 }))
    (cond (other_way x (codes "gone") gone i) (Some (record { name = codes "gone"; ins = 1; outs = 0 }))
    (cond (other_way x (codes "cell") cell i) (Some (record { name = codes "cell"; ins = 2; outs = 1 }))
    (cond (other_way x (codes "bound") bound i) (Some (record { name = codes "bound"; ins = 1; outs = 1 }))
    (cond (other_way x (codes "dom") dom i) (Some (record { name = codes "dom"; ins = 1; outs = 1 }))
    (cond (other_way x (codes "proto") proto i) (Some (record { name = codes "proto"; ins = 1; outs = 1 })) (find_signature gs x)))))))

own_signature : (ds : List PurePredDef) (x : List ℕ) (d : PurePredDef) → find_pred ds x ≡ Some d → find_signature (map signature_of ds) x ≡ Some (signature_of d)
own_signature [] x d is = not_none is
own_signature (e ∷ ds) x d is = by (bytes_eq e.name x) (own_signature ds x d) is
  where
    by : (b : Bool) → (find_pred ds x ≡ Some d → find_signature (map signature_of ds) x ≡ Some (signature_of d)) → cond b (Some e) (find_pred ds x) ≡ Some d → cond b (Some (signature_of e)) (find_signature (map signature_of ds) x) ≡ Some (signature_of d)
    by true later at = ap (λ k. Some (signature_of k)) (same_some at)
    by false later at = later at

isnt_false : (b : Bool) → not b ≡ false → b ≡ true
isnt_false true is = refl
isnt_false false is = absurd (true≢false is)

none_mapped : {X Y : Type 0} (f : Y → Bool) (h : X → Y) (xs : List X) (i : ℕ) (x : X) → list_any f (map h xs) ≡ false → slice_get xs i ≡ Some x → f (h x) ≡ false
none_mapped f h [] i x none at = not_none at
none_mapped f h (y ∷ ys) zero x none at = ap (λ z. f (h z)) (sym (same_some at)) ∙ (neither (f (h y)) (list_any f (map h ys)) none).0
none_mapped f h (y ∷ ys) (suc i) x none at = none_mapped f h ys i x (neither (f (h y)) (list_any f (map h ys)) none).1 at

module _ (p : PureParts) (valid : IsValid p) (u : PurePredUse) (d : PurePredDef) (user : core_of u.pred ≡ None) (finds : find_pred p.preds u.pred ≡ Some d) where
  rightly_used : misuses (predicates_of p) u ≡ false → (length u.ins ≡ length d.ins) × (length u.outs ≡ length d.outs)
  rightly_used right =
      let there : find_signature (predicates_of p) u.pred ≡ Some (signature_of d) = past_cores u.pred (map signature_of p.preds) user ∙ own_signature p.preds u.pred d finds in
      let both_right : (length d.ins == length u.ins && length d.outs == length u.outs) ≡ true =
      isnt_false (length d.ins == length u.ins && length d.outs == length u.outs) (sym (misuses-found p u (signature_of d) (distinct p (valid InvalidKind.Duplicate)) there) ∙ right) in
      let (ins, outs) = and_parts (length d.ins == length u.ins) (length d.outs == length u.outs) both_right in
      (sym ((Decides-eqb (length d.ins) (length u.ins)).0 ins), sym ((Decides-eqb (length d.outs) (length u.outs)).0 outs))

  right_at : (f : List ℕ) (q : PureProc) (i : ℕ) (n : PureNumberedCommand) → find_proc p.procs f ≡ Some q → slice_get q.body i ≡ Some n → n.command ≡ unfold_use u → misuses (predicates_of p) u ≡ false
  right_at f q i n found at is =
      let (before, none) = without_fault p f q valid found InvalidKind.Arity in
      let here : list_any (misuses (predicates_of p)) (uses_of n.command) ≡ false =
      none_mapped (λ c. list_any (misuses (predicates_of p)) c.used) (λ c. piece_of_command (logicals_of_spec (find_spec p.specs q.name)) c.command) q.body i n none at in
      (neither (misuses (predicates_of p) u) false (ap (λ k. list_any (misuses (predicates_of p)) (uses_of k)) (sym is) ∙ here)).0

  -- so does a command that unfolds it
  pub as_many_there : (fs : List PureFrame) (n : PureNumberedCommand) → command_of_frames p fs ≡ Some n → n.command ≡ unfold_use u → (length u.ins ≡ length d.ins) × (length u.outs ≡ length d.outs)
  as_many_there [] n at is = not_none at
  as_many_there (f ∷ fs) n at is =
      let (q, (found, there)) = command_found (find_proc p.procs f.procedure) f.next n at in
      rightly_used (right_at f.procedure q f.next n found there is)

-- ---- the values of expressions

pub evaluated_length : (t : Store) (es : List PureExpr) (vs : List PureValue) → evaluate_all es t ≡ Ok vs → length vs ≡ length es
evaluated_length t [] [] is = refl
evaluated_length t [] (v ∷ vs) is = absurd (cc)
evaluated_length t (e ∷ es) vs is = by (evaluate e t) (evaluate_all es t) refl is (evaluated_length t es)
  where
    by : (o : Outcome) (os : Outcomes) → evaluate_all es t ≡ os → both o os ≡ Ok vs → ((ws : List PureValue) → evaluate_all es t ≡ Ok ws → length ws ≡ length es) → length vs ≡ suc (length es)
    by (Ok v) (Ok ws) rest found each = let same : v ∷ ws ≡ vs = cc in ap length (sym same) ∙ ap suc (each ws rest)
    by (Ok v) (Err f) rest found each = absurd (cc)
    by (Err f) os rest found each = absurd (cc)
