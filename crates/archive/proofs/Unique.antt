-- No second outcome meets the promise of a public function.
use Prim.Native.Nat.{ℕ}
use mathlib.Core.Path.{◌≡◌, sym, ap, ◌∙◌}
use mathlib.Core.List.{List}
use Rattle.protocol.specs.declared.Answer.{Answer}
use Rattle.protocol.specs.declared.Values.{Values}
use Rattle.steps.specs.Step.{Called, gives}
use Rattle.steps.specs.Run.{ran}
use Rattle.archive.specs.Call.{setup_call, step_call}
use Rattle.archive.specs.Run.{pieces_of, run_call}
use Rattle.archive.specs.Port.{Returned}

-- the same answer and the same bytes
one_call : (c : Called) (a b : Answer) (u v : List ℕ) → gives a u ≡ c → gives b v ≡ c → (a ≡ b) × (u ≡ v)
one_call c a b u v p q = let e = p ∙ sym q in (ap (λ r. r.answer) e, ap (λ r. r.table) e)

one_returned : (c : Called) (a b : Values) (u v : List ℕ) → Returned a u c → Returned b v c → (a ≡ b) × (u ≡ v)
one_returned c a b u v p q = (p.0 ∙ sym q.0, p.1 ∙ sym q.1)

pub setup_unique : (t : List ℕ) (sites partitions : ℕ) (a b : Answer) (u v : List ℕ) → gives a u ≡ setup_call t sites partitions → gives b v ≡ setup_call t sites partitions → (a ≡ b) × (u ≡ v)
setup_unique t sites partitions = one_call (setup_call t sites partitions)

pub step_unique : (t e : List ℕ) (a b : Answer) (u v : List ℕ) → gives a u ≡ step_call t e → gives b v ≡ step_call t e → (a ≡ b) × (u ≡ v)
step_unique t e = one_call (step_call t e)

pub run_unique : (t es b : List ℕ) (m n : ℕ) (u v x y : List ℕ) → (m ≡ pieces_of es b) × (ran u x ≡ run_call t es b) → (n ≡ pieces_of es b) × (ran v y ≡ run_call t es b) → (m ≡ n) × (u ≡ v) × (x ≡ y)
run_unique t es b m n u v x y p q = let e = p.1 ∙ sym q.1 in (p.0 ∙ sym q.0, ap (λ r. r.table) e, ap (λ r. r.answers) e)

pub port_setup_unique : (t : List ℕ) (sites partitions : ℕ) (a b : Values) (u v : List ℕ) → Returned a u (setup_call t sites partitions) → Returned b v (setup_call t sites partitions) → (a ≡ b) × (u ≡ v)
port_setup_unique t sites partitions = one_returned (setup_call t sites partitions)

pub port_step_unique : (t e : List ℕ) (a b : Values) (u v : List ℕ) → Returned a u (step_call t e) → Returned b v (step_call t e) → (a ≡ b) × (u ≡ v)
port_step_unique t e = one_returned (step_call t e)
