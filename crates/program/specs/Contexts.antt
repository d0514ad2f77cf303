-- What can stand after a row of commands.
use Rattle.std.specs.Prelude.{ℕ, zero, suc, Bool, true, false, List, [], ◌∷◌}
use Rattle.program.specs.declared.command.Command.{Command}
use Rattle.program.specs.declared.command.Command.TheVariants.{C, P, R, Open, Bar, Close, Stop}

-- The number is that of the brackets open around the body that is being read, or around the pivot whose choices are.
pub data Context : Type 0 where
  in_body_at : ℕ → Context
  at_pivot : ℕ → Context
  at_choice : ℕ → Context
  in_row_at : ℕ → Context
  closed : ℕ → Context
  over : Context
  nowhere : Context

-- the mark that ends a body under n open brackets, and what follows it
abbrev pub end_mark : ℕ → Command
end_mark zero = Stop
end_mark (suc n) = Bar

abbrev pub after_end : ℕ → Context
after_end zero = over
after_end (suc n) = at_choice n

abbrev pub after_bar : ℕ → Context
after_bar zero = nowhere
after_bar (suc n) = at_choice n

abbrev pub after_stop : ℕ → Context
after_stop zero = over
after_stop (suc n) = nowhere

-- by the command: C, P, R, `[`, `|`, `]`, the full stop
abbrev pick : Context → Context → Context → Context → Context → Context → Context → Command → Context
pick c p r opening bar close stop (C s) = c
pick c p r opening bar close stop (P s) = p
pick c p r opening bar close stop (R s) = r
pick c p r opening bar close stop Open = opening
pick c p r opening bar close stop Bar = bar
pick c p r opening bar close stop Close = close
pick c p r opening bar close stop Stop = stop

-- what one command leads to
abbrev pub go : Context → Command → Context
go (in_body_at n) = pick (in_body_at n) (at_pivot n) nowhere nowhere (after_bar n) nowhere (after_stop n)
go (at_pivot n) = pick nowhere nowhere nowhere (at_choice n) nowhere nowhere nowhere
go (at_choice n) = pick (in_body_at (suc n)) (at_pivot (suc n)) (in_row_at n) nowhere (at_choice n) (closed n) nowhere
go (in_row_at n) = pick nowhere nowhere (in_row_at n) nowhere nowhere (closed n) nowhere
go (closed n) = pick nowhere nowhere nowhere nowhere (after_bar n) nowhere (after_stop n)
go over = λ c. nowhere
go nowhere = λ c. nowhere

abbrev pub goes : Context → List Command → Context
goes st [] = st
goes st (c ∷ cs) = goes (go st c) cs

abbrev pub is_over : Context → Bool
is_over (in_body_at n) = false
is_over (at_pivot n) = false
is_over (at_choice n) = false
is_over (in_row_at n) = false
is_over (closed n) = false
is_over over = true
is_over nowhere = false
