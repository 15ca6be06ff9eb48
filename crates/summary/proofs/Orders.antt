-- The library's larger of two numbers is that of the summary; its smaller is so by definition. Assumes nothing.
use Rattle.std.proofs.Common.{◌≡◌, refl, ℤ, pos, negsuc, arith}
use borrow.Author.Tests.{lt-ltb, le-ltb}
use Rattle.std.specs.Int.{int_max}
use Rattle.laws.specs.Laws.Order.{Compared, less, same, more, trichotomy}
use Rattle.summary.specs.Summary.{larger}

pub max_is : (a b : ℤ) → int_max a b ≡ larger a b
max_is (pos m) (pos n) = go (trichotomy m n)
  where
    go : Compared m n → int_max (pos m) (pos n) ≡ larger (pos m) (pos n)
    go (less l) = rw (lt-ltb m n l, le-ltb n m (omega arith))
    go (same e) = rw e
    go (more l) = rw (lt-ltb n m l, le-ltb m n (omega arith))
max_is (pos m) (negsuc n) = refl
max_is (negsuc m) (pos n) = refl
max_is (negsuc m) (negsuc n) = go (trichotomy m n)
  where
    go : Compared m n → int_max (negsuc m) (negsuc n) ≡ larger (negsuc m) (negsuc n)
    go (less l) = rw (lt-ltb m n l, le-ltb n m (omega arith))
    go (same e) = rw e
    go (more l) = rw (lt-ltb n m l, le-ltb m n (omega arith))
