-- The first tick at which something is due at a connection.
use Rattle.std.proofs.Common.{◌≡◌, ℕ, min, sym, subst, arith, inl, inr}
use Rattle.std.proofs.lemmas.Bool.{cases_lt}
use Rattle.rina_dtp.specs.Observed.{KeepsFrom}
use Rattle.rina_conn.specs.declared.conn.Conn.{Conn}
use Rattle.rina_conn.specs.Quiet.{IsDueFrom, PlansFrom, SendsFrom}

pub due_from : (k : Conn) (sends plans keeps : ℕ) → SendsFrom sends k.sending → PlansFrom plans k → KeepsFrom keeps k.rx → IsDueFrom (min (min sends plans) keeps) k
due_from k sends plans keeps sending planning keeping = elim (cases_lt (min sends plans) keeps) [
  | inl lt ↦ elim (cases_lt sends plans) [
    | inl lt' ↦ (let e : min (min sends plans) keeps ≡ sends = omega (arith, lt, lt') in subst (λ n. IsDueFrom n k) (sym e) (inl sending))
    | inr ge ↦ (let e : min (min sends plans) keeps ≡ plans = omega (arith, lt, ge) in subst (λ n. IsDueFrom n k) (sym e) (inr (inl planning)))
  ]
  | inr ge ↦ (let e : min (min sends plans) keeps ≡ keeps = omega (arith, ge) in subst (λ n. IsDueFrom n k) (sym e) (inr (inr keeping)))
]
