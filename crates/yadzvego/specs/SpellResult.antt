-- What crosses to C for a call that writes a text: number 0 and how many bytes it has, or the refusal's number and 0.
use Rattle.std.specs.Prelude.{ℕ}
use Rattle.interval.specs.Result.{Res, ok, refused}
use Rattle.yadzvego.specs.declared.sheets.SpellResult.{SpellResult}

abbrev pub spell_result_of : Res ℕ → SpellResult
spell_result_of (ok n) = record { number = 0; length = n }
spell_result_of (refused k) = record { number = k; length = 0 }
