-- Temperatures in 0.1 °C. 01, "What the product does": "t, ta and a surface aim are signed 16-bit two's complement." They are counted from
-- −3,276.8 °C, the least of them, so that all arithmetic is on whole numbers from 0 up.
-- Assumes nothing.
use Rattle.std.specs.Prelude.{ℕ, ◌+◌, ◌%◌}
use Rattle.temperatures.specs.declared.Temperature.{Temperature}

-- two's complement into the count from −32,768, and such a count into two's complement
abbrev pub offset_binary : ℕ → ℕ
offset_binary n = (n + 32_768) % 65_536

-- the temperature that a number says in two's complement, and the number that says it
abbrev pub decoded : ℕ → Temperature
decoded n = record { 0 = offset_binary n }

abbrev pub encoded : Temperature → ℕ
encoded t = offset_binary t.0

-- 0.0 °C in the count
abbrev pub zero_degrees : ℕ
zero_degrees = offset_binary 0

-- a temperature from 0.0 °C up, in 0.1 °C
abbrev pub tenths_celsius : ℕ → Temperature
tenths_celsius t = record { 0 = zero_degrees + t }
