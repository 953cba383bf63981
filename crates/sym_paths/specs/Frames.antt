-- The frames of a path and their stores, and how a step changes them.
use Rattle.std.specs.Prelude.{◌≡◌, ℕ, ◌+◌, List, [], ◌∷◌, length, Bool, true, false, if◌then◌else◌, Option, Some, None, ⊤}
use Rattle.std.specs.Str.{bytes_eq}
use Rattle.gil_values.specs.declared.kinds.Kind.{Kind}
use Rattle.gil_syntax.specs.Pure.{PureProc}
use Rattle.pure_terms.specs.declared.variables.Sort.{Sort}
use Rattle.pure_terms.specs.declared.variables.Var.{Var}
use Rattle.pure_terms.specs.Pure.{PureTerm, variable}
use Rattle.sym_evaluation.specs.Pure.{PureStore, term_at}
use Rattle.sym_paths.specs.Pure.{PureFrame, PurePath}

-- ---- the frame that runs

-- the store of the frame that runs
abbrev pub running_store : List PureFrame → PureStore
running_store [] = []
running_store (f ∷ fs) = f.store

-- the frame that runs goes to the next command with this store
abbrev pub advanced : PureStore → List PureFrame → List PureFrame
advanced bs [] = []
advanced bs (f ∷ fs) = record f { next = f.next + 1; store = bs } ∷ fs

-- the frame that runs may stand at another command, and all else is the same
abbrev pub AreMoved : List PureFrame → List PureFrame → Type 0
AreMoved [] [] = ⊤
AreMoved (f ∷ fs) (g ∷ gs) = (g ≡ record f { next = g.next }) × (gs ≡ fs)
AreMoved _ _ = ⊥

-- the store cs gives a name this term, and to every other name what bs gives it
abbrev pub IsBound : PureStore → List ℕ → PureTerm → PureStore → Type 0
IsBound bs x t cs = (y : List ℕ) → term_at cs y ≡ (if bytes_eq x y then Some t else term_at bs y)

-- ---- calls

-- the parameters with their arguments
abbrev pub terms_bound : List (List ℕ) → List PureTerm → PureStore
terms_bound (x ∷ xs) (t ∷ ts) = record { name = x; term = t } ∷ terms_bound xs ts
terms_bound _ _ = []

-- the store gives each parameter its argument, and no other name a term
abbrev pub IsFirstStore : List (List ℕ) → List PureTerm → PureStore → Type 0
IsFirstStore params args bs = (x : List ℕ) → term_at bs x ≡ term_at (terms_bound params args) x

-- the frame that runs goes to the next command, and a variable of it waits for a call, which may have a handler
abbrev pub waiting : List ℕ → Option ℕ → List PureFrame → List PureFrame
waiting x handler [] = []
waiting x handler (f ∷ fs) = record f { next = f.next + 1; waits = Some x; handler = handler } ∷ fs

abbrev pub called_frame : PureProc → PureStore → PureFrame
called_frame q bs = record { procedure = q.name; next = 0; store = bs; waits = None; handler = None }

-- the frame goes on, and the variable that waits, if any, gets the term
abbrev pub ResumesAt : Option (List ℕ) → PureTerm → PureFrame → PureFrame → Type 0
ResumesAt (Some x) t f next = (bs : PureStore) × (IsBound f.store x t bs × (next ≡ record f { store = bs; waits = None; handler = None }))
ResumesAt None t f next = next ≡ f

abbrev pub Resumes : PureTerm → PureFrame → PureFrame → Type 0
Resumes t f next = ResumesAt f.waits t f next

-- ---- throws

abbrev pub from_handler : Option ℕ → List PureFrame → List PureFrame → List PureFrame
from_handler (Some label) here later = here
from_handler None here later = later

-- the frames from the first one on whose call has a handler
abbrev pub handling : List PureFrame → List PureFrame
handling [] = []
handling (f ∷ fs) = from_handler f.handler (f ∷ fs) (handling fs)

-- the first frame goes on at the label of its handler, and its variable that waits gets the term
abbrev pub Catches : PureTerm → List PureFrame → List PureFrame → Type 0
Catches t [] nexts = ⊥
Catches t (f ∷ fs) nexts =
    (label : ℕ) × ((f.handler ≡ Some label) × ((r : PureFrame) × (Resumes t f r × (nexts ≡ record r { next = label } ∷ fs))))

-- ---- new variables

-- the sort of the draws of a kind
abbrev pub draw_sort : Kind → Option Sort
draw_sort Kind.Int = Some Sort.Int
draw_sort Kind.Bool = Some Sort.Bool
draw_sort Kind.Str = Some Sort.Str
draw_sort _ = None

-- the variable that is the next one
abbrev pub next_variable : {S : Type 0} → PurePath S → Sort → PureTerm
next_variable path sort = variable (record { number = length path.vars; sort = sort })

-- the fresh variable of an action that takes a new symbol
abbrev pub fresh_where : Bool → List Sort → Option Var
fresh_where true vars = Some (record { number = length vars; sort = Sort.Fresh })
fresh_where false vars = None

-- an action that takes a new symbol gets a fresh variable, which stays in the table whatever comes of the action
abbrev pub taken : Bool → List Sort
taken true = Sort.Fresh ∷ []
taken false = []

-- the new variable of a draw
abbrev pub drawn_by : Option Sort → List Sort
drawn_by None = []
drawn_by (Some sort) = sort ∷ []
