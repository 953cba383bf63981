-- Statements give as many commands as is said, wherever they stand and wherever the handler around them is, where the commands of expressions
-- and simple statements are as many everywhere.
use Rattle.std.proofs.Common.{◌≡◌, ℕ, ◌+◌, List, [], ◌∷◌, ◌++◌, Bool, true, false, not, Option, Some, None, length, refl, arith, length-append}
use Rattle.std.specs.Prelude.{codes, max}
use Rattle.std.proofs.lemmas.List.{length-map}
use Rattle.gil_values.specs.Pure.{text}
use Rattle.gil_syntax.specs.Pure as gil
use Rattle.gil_syntax.specs.Pure.{PureExpr, literal, fail, vanish, PureNumberedCommand}
use Rattle.source_language.specs.Code.{truth, jump}
use Rattle.source_language.specs.Compiled.{invariant_code}
use Rattle.source_language.specs.Names.{caught, own_names}
use Rattle.source_language.specs.Procedures.{placed}
use Rattle.source_language.specs.Pure.{PureInvariant}
use Rattle.source_statements.specs.Codes.{Codes, jumps_to, behind, inside_label, guarded_code, far_label, choice_code, if_code}
use Rattle.source_statements.specs.Compiled.{block_temporaries, block_throws, head_code, loop_code, handler_label, statement_code, block_code}
use Rattle.source_statements.specs.Lengths.{invariant_length, guard_length, statement_length, block_length}
use Rattle.source_statements.specs.Pure.{PureStatement, simple, assert, assume, if_else, while, return, logic, try_catch, PureBlock, no_statements, statement_and}

pub jumps_length : (at label : ℕ) (es : List PureExpr) → length (jumps_to at es label) ≡ length es
jumps_length at label es = length-map es (λ e. jump at e label)

-- how many jumps there are that lead out besides
abbrev exits : Bool → ℕ
exits true = 1
exits false = 0

guarded-long : (into : Bool) (pc at : ℕ) (front : List PureNumberedCommand) (es : List PureExpr) (inside : List PureNumberedCommand)
    → length (guarded_code into pc at front es inside) ≡ length front + length es + exits into + length inside
guarded-long true pc at front es inside =
    let start = inside_label true pc front es in
    let jumping = jumps_to at es start in
    let out = jump at truth (start + length inside) ∷ [] in
    omega (arith, length-append front ((jumping ++ out) ++ inside), length-append (jumping ++ out) inside, length-append jumping out, jumps_length at start es)
guarded-long false pc at front es inside =
    let start = inside_label false pc front es in
    let jumping = jumps_to at es (start + length inside) in
    omega (arith, length-append front (jumping ++ inside), length-append jumping inside, jumps_length at (start + length inside) es)

choice-long : (pc at : ℕ) (front : List PureNumberedCommand) (es : List PureExpr) (near far : List PureNumberedCommand)
    → length (choice_code pc at front es near far) ≡ length front + length es + length near + length far + 1
choice-long pc at front es near far =
    let label = far_label pc front es near in
    let jumping = jumps_to at es label in
    let sides = near ++ (jump at truth (label + length far) ∷ far) in
    omega (arith, length-append front (jumping ++ sides), length-append jumping sides, length-append near (jump at truth (label + length far) ∷ far), jumps_length at label es)

if-long : (taken : Bool) (pc at : ℕ) (front : List PureNumberedCommand) (es : List PureExpr) (on off : ℕ → List PureNumberedCommand) (n k : ℕ)
    → ((l : ℕ) → length (on l) ≡ n) → ((l : ℕ) → length (off l) ≡ k)
    → length (if_code taken pc at front es on off) ≡ length front + length es + n + k + 1
if-long true pc at front es on off n k first second =
    let near = behind pc front es in
    let far = far_label pc front es (off near) in
    omega (arith, choice-long pc at front es (off near) (on far), first far, second near)
if-long false pc at front es on off n k first second =
    let near = behind pc front es in
    let far = far_label pc front es (on near) in
    omega (arith, choice-long pc at front es (on near) (off far), first near, second far)

guard-long : {E S : Type 0} (c : Codes E S) (into : Bool) (e : E) → guard_length c into e ≡ length (c.front e 0 0) + length (c.jumps (c.operand e)) + exits into
guard-long c true e = refl
guard-long c false e = omega arith

invariant-long : (at : ℕ) (more : List (List ℕ)) (i : Option PureInvariant) → length (invariant_code at more i) ≡ invariant_length i
invariant-long at more None = refl
invariant-long at more (Some i) = refl

-- what is to be shown of a language whose blocks have handlers: commands are as many wherever they stand, and wherever the handler is
pub record SameLengths {E S : Type 0} (c : Codes E S) : Type 0 where
  pub fronts : (e : E) (pc at : ℕ) → length (c.front e pc at) ≡ length (c.front e 0 0)
  pub simples : (x : S) (label pc at : ℕ) → length (c.simple_code (Some label) pc at x) ≡ length (c.simple_code (Some 0) 0 0 x)

module _ {E S : Type 0} (c : Codes E S) (same : SameLengths c) where
  guarded-same : (into : Bool) (e : E) (pc at : ℕ) (inside : List PureNumberedCommand)
      → length (guarded_code into pc at (c.front e pc at) (c.jumps (c.operand e)) inside) ≡ guard_length c into e + length inside
  guarded-same into e pc at inside =
      omega (arith, guarded-long into pc at (c.front e pc at) (c.jumps (c.operand e)) inside, same.fronts e pc at, guard-long c into e)

  mutual
    statement-long : (x : PureStatement E S) (label pc at : ℕ) → length (statement_code c (Some label) pc at x) ≡ statement_length c x
    statement-long (simple x) label pc at = same.simples x label pc at
    statement-long (assert e) label pc at = guarded-same (not c.where_true) e pc at (placed at (fail (literal (text (codes "assert")))) ∷ [])
    statement-long (assume e) label pc at = guarded-same (not c.where_true) e pc at (placed at vanish ∷ [])
    statement-long (if_else e on off) label pc at =
        omega (
          arith,
          if-long c.where_true pc at (c.front e pc at) (c.jumps (c.operand e)) (λ n. block_code c (Some label) n on) (λ n. block_code c (Some label) n off)
              (block_length c on) (block_length c off) (λ n. block-long on label n) (λ n. block-long off label n),
          same.fronts e pc at,
        )
    statement-long (while e invariant body) label pc at =
        omega (
          arith,
          length-append head (loop_code c pc at start e (λ n. block_code c (Some label) n body)),
          heads,
          guarded-same c.where_true e start at (code ++ jump at truth pc ∷ []),
          length-append code (jump at truth pc ∷ []),
          block-long body label inside,
        )
      where
        head : List PureNumberedCommand
        head = head_code c (Some label) at e invariant body

        heads : length head ≡ invariant_length invariant
        heads = invariant-long at (own_names (max (c.uses e) (block_temporaries c body)) (block_throws c true body)) invariant

        start : ℕ
        start = pc + length head

        inside : ℕ
        inside = inside_label c.where_true start (c.front e start at) (c.jumps (c.operand e))

        code : List PureNumberedCommand
        code = block_code c (Some label) inside body
    statement-long (return e) label pc at =
        omega (arith, length-append (c.front e pc at) (placed at (gil.return (c.operand e)) ∷ []), same.fronts e pc at)
    statement-long (logic l) label pc at = refl
    statement-long (try_catch body y handler) label pc at =
        let start = handler_label c pc body in
        let rest = block_code c (Some label) (start + 1) handler in
        omega (
          arith,
          length-append (block_code c (Some start) pc body)
              (jump at truth (start + 1 + length rest) ∷ (placed at (gil.assign y (gil.name caught)) ∷ rest)),
          block-long body start pc,
          block-long handler label (start + 1),
        )

    pub block-long : (b : PureBlock E S) (label pc : ℕ) → length (block_code c (Some label) pc b) ≡ block_length c b
    block-long no_statements label pc = refl
    block-long (statement_and at x rest) label pc =
        let code = statement_code c (Some label) pc at x in
        omega (
          arith,
          length-append code (block_code c (Some label) (pc + length code) rest),
          statement-long x label pc at,
          block-long rest label (pc + length code),
        )
