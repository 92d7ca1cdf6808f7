-- A domain loses nothing on single values exactly if some relation tracks them: the least one does.
use Rattle.std.specs.Prelude.{ℕ, Option}
use Rattle.model.specs.Environments.{Env}
use Rattle.domain.specs.Lattice.{Lattice, Meaning, Lawful}
use Rattle.domain.specs.Tracking as track
use Rattle.domain.specs.Tracking.{Tracking, Led, LosesNothing}
use Rattle.domain.specs.Pairs.{pair, PairTracks}
use Rattle.domain.specs.PairTracks.{pair_tracking}

module _ (n : ℕ) {S : Type 0} {M : Meaning S} (l : Lattice M) where
  led_tracks : (tracks : S → Option Env → Type 0) → Tracking n l tracks → {s : S} {o : Option Env} → Led n l s o → tracks s o
  led_tracks tracks t (track.start e w h) = t.start _ e w h
  led_tracks tracks t (track.narrow_value r x e i w h k) = t.narrow_value _ r x e i w (led_tracks tracks t h) k
  led_tracks tracks t (track.narrow_none r x i h) = t.narrow_none _ r x i (led_tracks tracks t h)
  led_tracks tracks t (track.set_value r x e i v w h k) = t.set_value _ r x e i v w (led_tracks tracks t h) k
  led_tracks tracks t (track.set_none r x i h) = t.set_none _ r x i (led_tracks tracks t h)
  led_tracks tracks t (track.keep_holds c e v w h k) = t.keep_holds _ c e v w (led_tracks tracks t h) k
  led_tracks tracks t (track.keep_fails c e v w h k) = t.keep_fails _ c e v w (led_tracks tracks t h) k
  led_tracks tracks t (track.keep_none c h) = t.keep_none _ c (led_tracks tracks t h)
  led_tracks tracks t (track.join_left e w h k) = t.join_left _ _ e w (led_tracks tracks t h) (led_tracks tracks t k)
  led_tracks tracks t (track.join_right e w h k) = t.join_right _ _ e w (led_tracks tracks t h) (led_tracks tracks t k)
  led_tracks tracks t (track.join_none h k) = t.join_none _ _ (led_tracks tracks t h) (led_tracks tracks t k)

  pub tracked_loses_nothing : (tracks : S → Option Env → Type 0) → Tracking n l tracks → LosesNothing n l
  tracked_loses_nothing tracks t = record {
    sure_value = λ s x e v w h. t.sure_value s x e v w (led_tracks tracks t h);
    sure_none = λ s x h. t.sure_none s x (led_tracks tracks t h);
    shows_value = λ s d e f w h. t.shows_value s d e f w (led_tracks tracks t h);
    shows_none = λ s d h. t.shows_none s d (led_tracks tracks t h);
    range_value = λ s r x e i w h k. t.range_value s r x e i w (led_tracks tracks t h) k;
    range_none = λ s r x i h. t.range_none s r x i (led_tracks tracks t h);
  }

  pub led_tracking : LosesNothing n l → Tracking n l (Led n l)
  led_tracking t = record {
    start = λ s e w h. track.start e w h;
    narrow_value = λ s r x e i w h k. track.narrow_value r x e i w h k;
    narrow_none = λ s r x i h. track.narrow_none r x i h;
    set_value = λ s r x e i v w h k. track.set_value r x e i v w h k;
    set_none = λ s r x i h. track.set_none r x i h;
    keep_holds = λ s c e v w h k. track.keep_holds c e v w h k;
    keep_fails = λ s c e v w h k. track.keep_fails c e v w h k;
    keep_none = λ s c h. track.keep_none c h;
    join_left = λ s u e w h k. track.join_left e w h k;
    join_right = λ s u e w h k. track.join_right e w h k;
    join_none = λ s u h k. track.join_none h k;
    sure_value = λ s x e v w h. t.sure_value s x e v w h;
    sure_none = λ s x h. t.sure_none s x h;
    shows_value = λ s d e f w h. t.shows_value s d e f w h;
    shows_none = λ s d h. t.shows_none s d h;
    range_value = λ s r x e i w h k. t.range_value s r x e i w h k;
    range_none = λ s r x i h. t.range_none s r x i h;
  }

pub pair_loses_nothing : (n : ℕ) {A B : Type 0} {M : Meaning A} {N : Meaning B} (a : Lattice M) (b : Lattice N) → Lawful n a → Lawful n b → LosesNothing n a → LosesNothing n (pair a b n)
pair_loses_nothing n a b p q t = tracked_loses_nothing n (pair a b n) (PairTracks a b (Led n a)) (pair_tracking n a b p q (Led n a) (led_tracking n a t))
