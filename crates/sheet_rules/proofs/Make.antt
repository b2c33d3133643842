-- A record written out in a line, for examples.
-- Assumes nothing.
use Prim.Native.Nat.{ℕ}
use Rattle.sheet_rules.specs.declared.Record.{Record}

-- stripe, layer, coder, offsets, size, resolution, base colour, start and length of coded data
abbrev pub made : ℕ → ℕ → ℕ → ℕ → ℕ → ℕ → ℕ → ℕ → ℕ → ℕ → ℕ → ℕ → ℕ → Record
made s l c x y w h res b0 b1 b2 from n =
    record {
      stripe = s;
      layer = l;
      coder = c;
      x = x;
      y = y;
      width = w;
      height = h;
      res = res;
      base0 = b0;
      base1 = b1;
      base2 = b2;
      octet17 = 0;
      start = from;
      len = n;
      octets26 = 0;
    }
