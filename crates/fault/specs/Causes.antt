-- The causes of a refusal, with the number and the layer of each.
use Rattle.std.specs.Prelude.{◌≡◌, ℕ, ◌-◌, List, [], ◌∷◌, length, slice_index_or}
use Rattle.fault.specs.declared.causes.Cause.{Cause}
use Rattle.fault.specs.declared.causes.Cause.TheVariants.{NoEnd, ShortBuffer, LongCommand, UnknownCommand, Malformed, ParameterCount, OutOfRange, PasswordClosed, WrongPassword, NominalSet, NoDeadLoad, SpanNotPositive, TooFewReadings, PortRange, FactorRange, NinthGauge}
use Rattle.fault.specs.declared.causes.Layer.{Layer}
use Rattle.fault.specs.declared.causes.Layer.TheVariants.{Line, Command, Weighing, Bank}

pub record Described : Type 0 where
  pub number : ℕ
  pub layer : Layer

-- every cause, with its number and its layer
abbrev pub described : Cause → Described
described NoEnd = record { number = 1; layer = Line }
described ShortBuffer = record { number = 2; layer = Line }
described LongCommand = record { number = 3; layer = Line }
described UnknownCommand = record { number = 4; layer = Command }
described Malformed = record { number = 5; layer = Command }
described ParameterCount = record { number = 6; layer = Command }
described OutOfRange = record { number = 7; layer = Command }
described PasswordClosed = record { number = 8; layer = Weighing }
described WrongPassword = record { number = 9; layer = Weighing }
described NominalSet = record { number = 10; layer = Weighing }
described NoDeadLoad = record { number = 11; layer = Weighing }
described SpanNotPositive = record { number = 12; layer = Weighing }
described TooFewReadings = record { number = 13; layer = Bank }
described PortRange = record { number = 14; layer = Bank }
described FactorRange = record { number = 15; layer = Bank }
described NinthGauge = record { number = 16; layer = Bank }

-- the letters L, C, W and B
abbrev pub letter_of : Layer → ℕ
letter_of Line = 76
letter_of Command = 67
letter_of Weighing = 87
letter_of Bank = 66

-- the causes in the order of their numbers
abbrev pub causes : List Cause
causes = NoEnd ∷ ShortBuffer ∷ LongCommand ∷ UnknownCommand ∷ Malformed ∷ ParameterCount ∷ OutOfRange ∷ PasswordClosed ∷ WrongPassword ∷ NominalSet ∷ NoDeadLoad ∷ SpanNotPositive ∷ TooFewReadings ∷ PortRange ∷ FactorRange ∷ NinthGauge ∷ []

-- there are sixteen causes, numbered from 1 without a gap: no two share a number
pub record Numbered : Type 0 where
  pub sixteen : length causes ≡ 16
  pub placed : (c : Cause) → slice_index_or causes ((described c).number - 1) NoEnd ≡ c
  pub apart : (c d : Cause) → (described c).number ≡ (described d).number → c ≡ d
