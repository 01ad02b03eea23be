-- Laws of a list from a place on, once over its elements and what they stand for. Assumes nothing.
use Rattle.std.specs.Prelude.{◌≡◌, ℕ, ◌+◌, ◌<◌, ◌≤◌, List, [], ◌∷◌, map, length, drop, slice_index_or}
use Rattle.std.proofs.Common.{ap, add-one, drop_of_length-le, drop-cons}

module _ {A : Type 0} (d : A) (xs : List A) (i : ℕ) where
  pub drop_at : i < length xs → drop i xs ≡ slice_index_or xs i d ∷ drop (i + 1) xs
  drop_at h = rw (add-one i, drop-cons xs i d h)

  pub drop-end : length xs ≤ i → drop i xs ≡ []
  drop-end h = drop_of_length-le xs {i = i} h

module _ {A B : Type 0} (f : A → B) (d : A) (xs : List A) (i : ℕ) where
  pub map_at : i < length xs → map f (drop i xs) ≡ f (slice_index_or xs i d) ∷ map f (drop (i + 1) xs)
  map_at h = ap (map f) (drop_at d xs i h)

  pub map-end : length xs ≤ i → map f (drop i xs) ≡ []
  map-end h = ap (map f) (drop-end d xs i h)
