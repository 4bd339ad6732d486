-- `bits::laws` meets its contract: the record of the laws. Assumes nothing.
use Rattle.bits.proofs.Digits.{bit-and, bit-or, bit-xor, bit_pow, bit_sum, bits_equal, bit_above, below_of_bits, lines_ones, ones_both}
use Rattle.bits.proofs.Lowest.{lines_lowest}
use Rattle.std.proofs.Common.{sym}
use Rattle.bits.proofs.laws.Goals as goal

pub returns : goal.returns
returns c =
    record {
      bit-and = bit-and;
      bit-or = bit-or;
      bit-xor = bit-xor;
      bit_pow = bit_pow;
      bit_sum = bit_sum;
      bits_equal = bits_equal;
      below_bits = λ n x. ((λ h k. bit_above n x k h), below_of_bits n x);
      ones_lines = λ n x h. sym (lines_ones n x h);
      ones_both = ones_both;
      lines_lowest = lines_lowest;
    }
