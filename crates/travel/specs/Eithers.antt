-- What is so of one of two, by which it is; in any universe, as the library's is not.
use Rattle.either.specs.declared.Either.{Either}
use Rattle.either.specs.declared.Either.TheVariants.{Left, Right}

abbrev pub either {ℓ} : {A B : Type 0} {C : Type ℓ} → (A → C) → (B → C) → Either A B → C
either f g (Left a) = f a
either f g (Right b) = g b
