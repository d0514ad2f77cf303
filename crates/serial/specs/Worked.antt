-- An account worked through: the laws can be met, a log in its serial order, a deposit taken back, and what goes wrong where records conflict.
use Rattle.std.specs.Prelude.{◌≡◌, ℕ, ◌+◌, ◌-◌, true, cond, not, List, [], ◌∷◌, Some, ◌==◌}
use Rattle.serial.specs.Sorts.{sort, by_rank}
use Rattle.serial.specs.Replay.{Replays}
use Rattle.serial.specs.Actions.{Meaning, KeepsGood, Commutes, Restores, Performs}

-- The state is a balance. Action 0 looks at it, and answers it; any other action pays in that much. Looking conflicts with paying in.
abbrev pub account : Meaning ℕ ℕ
account = record {
  does = λ a s. Some (cond (a == 0) s 0, s + a);
  undone = λ a x s. s - a;
  compensatable = λ a. true;
  conflict = λ a b. cond (a == 0) (not (b == 0)) (b == 0);
}

abbrev pub AnyBalance : ℕ → Type 0
AnyBalance s = Unit {0}

-- a record: the rank of its owner, its action, its answer
abbrev pub Entry : Type 0
Entry = ℕ × ℕ × ℕ

abbrev pub rank : Entry → ℕ
rank r = r.0

abbrev pub Leads : List Entry → ℕ → ℕ → Type 0
Leads log s t = Replays (Performs account (λ (r : Entry). r.1) (λ r. r.2)) log s t

pub record WorkedAccount : Type 0 where
  pub keeps_good : KeepsGood account AnyBalance
  pub commutes : Commutes account AnyBalance
  pub restores : Restores account AnyBalance
  -- 2 pays in 5, 1 pays in 3, 2 sees 8
  pub log : Leads ((2, 5, 0) ∷ (1, 3, 0) ∷ (2, 0, 8) ∷ []) 0 8
  pub sorted : sort (by_rank rank) ((2, 5, 0) ∷ (1, 3, 0) ∷ (2, 0, 8) ∷ []) ≡ (1, 3, 0) ∷ (2, 5, 0) ∷ (2, 0, 8) ∷ []
  pub serial : Leads ((1, 3, 0) ∷ (2, 5, 0) ∷ (2, 0, 8) ∷ []) 0 8
  -- before 2 looks, its deposit can be taken back
  pub back : Leads ((1, 3, 0) ∷ []) 0 (account.undone 5 0 8)
  -- 2 pays in 5, 1 sees 5: in the wrong order and in conflict, so it does not replay when it is sorted
  pub wrong : Leads ((2, 5, 0) ∷ (1, 0, 5) ∷ []) 0 5
  pub stuck : Leads (sort (by_rank rank) ((2, 5, 0) ∷ (1, 0, 5) ∷ [])) 0 5 → ⊥
