-- A product leaves its upper word in hi.
use Rattle.std.proofs.Common.{◌≡◌, ℕ, ◌+◌, refl, sym, subst, arith}
use Rattle.std.specs.Prelude.{Option, None}
use Rattle.tg_base.specs.Words.{product_high}
use Rattle.tg_tree.specs.Tree as tree
use Rattle.tg_tree.specs.Tree.{Tx}
use Rattle.tg_tree.specs.Shapes.{IsFlat}
use Rattle.tg_tree.specs.Memory.{Memory}
use Rattle.tg_tree.specs.declared.operators.Bin.TheVariants as bin
use Rattle.tg_tree.specs.Operators.{Given, word, operate}
use Rattle.tg_tree.specs.FlatValue.{onward, after_word}
use Rattle.tg_tree.specs.Actions.{World, Temps}
use Rattle.tg_instr.specs.declared.operands.Opnd.{Opnd}
use Rattle.tg_instr.specs.Shapes.{Hi}
use Rattle.tg_instr.specs.Contents.{Word, Contents}
use Rattle.tg_munch.specs.mirror.Choosing.{NumbersDrawn, ◌>>=◌, choose}
use Rattle.tg_munch.specs.mirror.Tiles.{constant_side, first_tile, tiled, operated}
use Rattle.tg_munch.specs.mirror.Munching.{expression}
use Rattle.tg_munch_proof.specs.Words.{HasWords}
use Rattle.tg_munch_proof.specs.glue.Places.{Place, Behaves, Walks}
use Rattle.tg_munch_proof.specs.laws.Values.{Result, IsAskable, extra, Sees, Known, Scene}
use Rattle.tg_munch_proof.proofs.Behaving.{weaker}
use Rattle.tg_munch_proof.proofs.Expressions.{value, spent, sums}
use Rattle.tg_munch_proof.proofs.Loading.{as_side, expression_does}
use Rattle.tg_munch_proof.proofs.Operated.{operands_leave, product_leaves}

-- hi has the upper word of the product of two words that are given
abbrev pub Upper : Given → Given → Contents → Type 0
Upper g h s = (u : ℕ) × ((v : ℕ) × ((g ≡ word u) × (h ≡ word v) × (s Hi ≡ Word (product_high u v))))

no_field : (b : Tx) → constant_side bin.Mul b ≡ None
no_field (tree.Const n) = refl
no_field _ = refl

module _ (scene : Scene) where
  abbrev place : Place
  place = scene.place

  abbrev world : World
  world = scene.world

  abbrev memory : Memory
  memory = scene.memory

  abbrev temps : Temps
  temps = scene.temps

  abbrev slots : ℕ
  slots = scene.slots

  abbrev walks : Walks place
  walks = scene.walks

  abbrev sees : Sees place world memory temps slots
  sees = scene.sees

  abbrev val : Tx → Given
  val e = value scene e

  abbrev units : Tx → ℕ
  units e = spent scene e

  pub product_does : (a b : Tx) (dest : Option Opnd) (d : NumbersDrawn) (s : Contents) → IsFlat a → IsFlat b → HasWords a →
      HasWords b → IsAskable dest → Known temps d s →
      Behaves place world (expression slots (tree.Binary bin.Mul a b) dest) d s
      (units (tree.Binary bin.Mul a b) + extra dest) (val (tree.Binary bin.Mul a b))
      (λ y e v s1. Result place.activation d dest s y e v s1 × Upper (val a) (val b) s1)
  product_does a b dest d s fa fb ha hb askable known =
      subst (λ o. Behaves place world (tiled bin.Mul (first_tile bin.Mul o None) dest (expression slots a None) (expression slots b None))
      d s (units (tree.Binary bin.Mul a b) + extra dest) (val (tree.Binary bin.Mul a b))
      (λ y e v s1. Result place.activation d dest s y e v s1 × Upper (val a) (val b) s1)) (sym (no_field b))
      (weaker place world (choose dest >>= (λ to. expression slots a None >>= (λ y. expression slots b None >>=
      (λ z. operated bin.Mul to y z)))) d s (units a + after_word (val a) (units b + after_word (val b) 2))
      (units (tree.Binary bin.Mul a b) + extra dest)
      (onward (val a) (λ u. onward (val b) (λ v. operate bin.Mul u v))) (val (tree.Binary bin.Mul a b))
      (λ y e v s1. Result place.activation d dest s y e v s1 × Upper (val a) (val b) s1)
      (sums scene (val a) (val b) (units a) (units b) 2 2 (extra dest) (omega arith)) refl
      (operands_leave place world bin.Mul 2 dest (expression slots a None) (expression slots b None) d s (units a) (units b)
      (val a) (val b) (λ u v s1. s1 Hi ≡ Word (product_high u v))
      (λ to y z d1 s1 u v settable wu wv hy hz. product_leaves place world to y z d1 s1 u v settable wu wv hy hz) askable
      (λ u e. sees.words a u fa ha e) (λ v e. sees.words b v fb hb e)
      (λ d1 le. as_side scene a d s known (expression_does scene a fa ha) d1 s le
      (λ y i j. refl))
      (λ d2 s1 le stay. as_side scene b d s known (expression_does scene b fb hb)
      d2 s1 le stay)))
