-- A rule between two points of a sheet (request (i)): span=I,J,D, level=I,J or plumb=I,J.
use Rattle.std.specs.Prelude.{ℕ}
use Rattle.sheet.specs.declared.sheet.Kind.{Kind}
use Rattle.sheet.specs.declared.sheet.Kind.TheVariants.{Span, Level, Plumb}
use Rattle.sheet.specs.declared.sheet.Rule.{Rule}

-- what a span has, a level rule or a plumb one
abbrev pub by_kind : {A : Type 0} → Kind → A → A → A → A
by_kind Span x y z = x
by_kind Level x y z = y
by_kind Plumb x y z = z

abbrev pub span : ℕ → ℕ → ℕ → Rule
span i j d = record { kind = Span; first = i; second = j; length = d }

abbrev pub level : ℕ → ℕ → Rule
level i j = record { kind = Level; first = i; second = j; length = 0 }

abbrev pub plumb : ℕ → ℕ → Rule
plumb i j = record { kind = Plumb; first = i; second = j; length = 0 }
