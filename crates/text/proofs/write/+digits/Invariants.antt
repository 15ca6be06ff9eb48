-- The measure of `write::digits`, which calls itself on n / 10.
use Rattle.text.proofs.write.+digits.Given as goal

abbrev pub decreases-digits : goal.decreases-digits
decreases-digits l = l.n
