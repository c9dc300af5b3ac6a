-- How the code of a session counts the tickets that it prints: `take` this many of the slice. Assumes nothing.
use Rattle.std.specs.Prelude.{cond, ℕ, eqb}
use Rattle.rows.specs.declared.Answer.{Answer}

-- "for an accepted sweep the tickets": a refused one has handed back none, whatever its value
abbrev pub swept_count : Answer → ℕ
swept_count a = cond (eqb a.code 0) a.value 0
