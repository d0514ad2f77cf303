-- What a line asks for by its first word, where the length and the bytes of that word were read.
use Rattle.std.proofs.Common.{◌≡◌, ℕ, ◌<◌, ◌≤◌, List, length, Ok, codes, ap, arith}
use Rattle.std.proofs.lemmas.Slice.Eq.{HasBytesAt, text_from_reads}
use Rattle.bench_lines.specs.declared.Line.TheVariants.{State}
use Rattle.bench_lines.specs.Lines.{performing, taking_back, conflicting, of_kinds, asked_at}

module _ (n : ℕ) (w bs : List ℕ) (at : ℕ) where
  named : (name : List ℕ) → length w ≡ length name → HasBytesAt w 0 name → asked_at n w bs at ≡ asked_at n name bs at
  named name long reads = ap (λ v. asked_at n v bs at) (text_from_reads w name long reads)

  pub asked_perform : 7 ≤ length w → length w < 8 → HasBytesAt w 0 (codes "perform") → asked_at n w bs at ≡ performing bs at
  unfolding asked_at
  asked_perform low high = named (codes "perform") (omega arith)

  pub asked_take_back : 9 ≤ length w → length w < 10 → HasBytesAt w 0 (codes "take-back") → asked_at n w bs at ≡ taking_back bs at
  unfolding asked_at
  asked_take_back low high = named (codes "take-back") (omega arith)

  pub asked_conflict : 8 ≤ length w → length w < 9 → HasBytesAt w 0 (codes "conflict") → asked_at n w bs at ≡ conflicting bs at
  unfolding asked_at
  asked_conflict low high = named (codes "conflict") (omega arith)

  pub asked_kinds : 5 ≤ length w → length w < 6 → HasBytesAt w 0 (codes "kinds") → asked_at n w bs at ≡ of_kinds bs at
  unfolding asked_at
  asked_kinds low high = named (codes "kinds") (omega arith)

  pub asked_state : 5 ≤ length w → length w < 6 → HasBytesAt w 0 (codes "state") → asked_at n w bs at ≡ Ok (State, at)
  unfolding asked_at
  asked_state low high = named (codes "state") (omega arith)

pub ruleset first_words = (asked_perform, asked_take_back, asked_conflict, asked_kinds, asked_state)
