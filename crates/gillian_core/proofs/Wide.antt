-- A cause in which nothing is undecided is told as a question only where a value leaves 128 bits.
use Rattle.std.proofs.Common.{◌≡◌, inl, inr, ℕ, List, [], ◌∷◌, refl, sym, ap, ◌∙◌}
use Rattle.gil_syntax.specs.Pure.{PureParts, PureSpec}
use Rattle.mem_model.specs.declared.keys.MemoryName.{MemoryName}
use Rattle.mem_model.specs.Actions.{Actions}
use Rattle.pure_terms.specs.Pure.{PureTerm}
use Rattle.sym_model.specs.Lists.{Each, IsAmong}
use Rattle.sym_model.proofs.ListLaws.{each_to}
use Rattle.checked_paths.specs.Causes.{PureShown, PureCause, failure, fault, bound, undecided, shown_in}
use Rattle.checked_paths.specs.Plainly.{IsSureCause}
use Rattle.checked_paths.specs.Pure.{PureEntry}
use Rattle.checked_paths.specs.Trails.{IsDecided}
use Rattle.spec_causes.specs.Causes.{IsCauseOf}
use Rattle.gil_report.specs.Pure.{PureQuestion, undecided_cause}
use Rattle.report_causes.specs.Causes.{wide_question, entry_terms, telling_terms, IsTooWide}
use Rattle.report_causes.specs.Telling.{AsksOfWide, TellsCause}

-- what is among a list is among it behind another term
each_behind : (t : PureTerm) (ts us : List PureTerm) → Each (λ u. IsAmong u us) ts → Each (λ u. IsAmong u (t ∷ us)) ts
each_behind t ts us all = each_to (λ u. IsAmong u us) (λ u. IsAmong u (t ∷ us)) ts (λ u among. inr among) all

each_itself : (ts : List PureTerm) → Each (λ t. IsAmong t ts) ts
each_itself [] = tt
each_itself (t ∷ ts) = (inl refl, each_behind t ts ts (each_itself ts))

module _ (p : PureParts) (memory : MemoryName) (m : Actions) (s : PureSpec) (most : ℕ) (e : PureEntry) where
  wide_by : (cause : PureCause) (shown : PureShown) → shown_in cause ≡ shown → (ts : List PureTerm) (q : PureQuestion) → IsCauseOf p memory m s most e cause → IsDecided cause
      → AsksOfWide ts shown q → Each (λ t. IsAmong t (telling_terms s e cause)) ts → IsTooWide p memory m s most q
  wide_by cause shown same ts q is decided asks telling = record {
    entry = e;
    cause = cause;
    is_cause = is;
    decided = decided;
    terms = ts;
    telling = telling;
    asked = asks.asked ∙ ap (λ u. wide_question u ts) (sym same);
    valuation = asks.valuation;
    is_shown = ap (λ (u : PureShown). u.valuation) same ∙ asks.is_shown;
    wide = asks.wide;
  }

  pub sure_asks_of_wide : (cause : PureCause) (q : PureQuestion) → IsSureCause cause → IsCauseOf p memory m s most e cause → TellsCause s e cause (undecided_cause q)
      → IsTooWide p memory m s most q
  sure_asks_of_wide (failure t shown) q sure is (inl asks) = wide_by (failure t shown) shown refl (t ∷ []) q is tt asks (inl refl, tt)
  sure_asks_of_wide (failure t shown) q sure is (inr asks) =
      wide_by (failure t shown) shown refl (entry_terms s e) q is tt asks (each_behind t (entry_terms s e) (entry_terms s e) (each_itself (entry_terms s e)))
  sure_asks_of_wide (fault kind shown) q sure is asks = wide_by (fault kind shown) shown refl (entry_terms s e) q is tt asks (each_itself (entry_terms s e))
  sure_asks_of_wide (bound shown) q sure is asks = wide_by (bound shown) shown refl (entry_terms s e) q is tt asks (each_itself (entry_terms s e))
  sure_asks_of_wide (undecided reason shown) q sure is asked = absurd sure
