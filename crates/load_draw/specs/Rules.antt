-- What the rules of the code stand for.
use Rattle.std.specs.Prelude.{List, ℕ, map}
use Rattle.spec_protocol.specs.Load as S
use Rattle.spec_protocol.specs.Load.{by, later, word, sign, ternary, next}
use Rattle.load_draw.specs.declared.Rule.{Rule}
use Rattle.load_draw.specs.declared.Rule.TheVariants as R

-- a rule
abbrev pub rule_of : Rule → S.Rule
rule_of R.Word = by word
rule_of R.Sign = by sign
rule_of R.Ternary = by ternary
rule_of R.Later = later

-- the state before the next word, and the word of a state
abbrev pub step : S.Rule → ℕ → ℕ
step (by f) x = next x
step later x = x

abbrev pub value_by : S.Rule → ℕ → ℕ
value_by (by f) x = f x
value_by later x = 0

-- the rules of a slice's sections
unfoldable pub rules_of : List Rule → List S.Rule
rules_of rules = map rule_of rules
