-- The memory without actions keeps the laws of every memory.
use Rattle.std.specs.Prelude.{ℕ, []}
use Rattle.std.specs.List.{Contains}
use Rattle.std.proofs.Common.{⊎_elim, inr, refl}
use Rattle.std.proofs.Math.Nat.{not-suc-le-zero}
use Rattle.mem_model.specs.Laws.{NoMemoryIsOne}

none_contained : (n : ℕ) → ¬ Contains [] n
none_contained n is = not-suc-le-zero is.1

pub no_memory_is_one : NoMemoryIsOne
no_memory_is_one memory = record {
  locality = λ action fresh args h rest in_memory rest_in_memory compatible may settled. record {
    outcome = refl;
    heap = refl;
    compatible = compatible;
  };
  no_invention =
      λ action fresh args h in_memory may n occurs. ⊎_elim (λ in_text. absurd (none_contained n in_text))
      (λ in_heap. inr (inr in_heap)) occurs;
  keeps_heaps = λ action fresh args h in_memory may. in_memory;
  changes_only_when_done = λ action fresh args h undone. refl;
}
