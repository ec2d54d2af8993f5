-- Every instruction respects worlds that differ in added words alone, if calls and returns do.
use Rattle.std.proofs.Common.{ℕ, ◌≡◌, Bool, true, false, nat_lt, refl, ap, ◌∙◌, Option, Some, None}
use Rattle.tg_tree.specs.Memory.{Cell, slot}
use Rattle.tg_tree.specs.Actions.{Activation}
use Rattle.tg_instr.specs.declared.instr.Instr.{Instr}
use Rattle.tg_instr.specs.declared.instr.Instr.TheVariants.{Sll, Srl, Sra, Mfhi, Mflo, Mult, Div, Add, Sub, Addu}
use Rattle.tg_instr.specs.declared.instr.Instr.TheVariants.{Subu, And, Or, Xor, Nor}
use Rattle.tg_instr.specs.declared.instr.Instr.TheVariants.{Slt, Sltu, Addi, Addiu, Slti, Sltiu, Andi, Ori, Xori, Lui}
use Rattle.tg_instr.specs.declared.instr.Instr.TheVariants.{Lb, Lbu, Lw, Sb, Sw, Move}
use Rattle.tg_instr.specs.declared.instr.Instr.TheVariants.{FrameLoad, FrameStore, FrameAddress, Address, Mark, Jump}
use Rattle.tg_instr.specs.declared.instr.Instr.TheVariants.{Branch, Call, Service, Fault, Return}
use Rattle.tg_instr.specs.Shapes.{InstructionShape, Calls, Returns, shape, with_sign}
use Rattle.tg_instr.specs.Contents.{content_of, cell_of}
use Rattle.tg_regalloc_proof.proofs.Apart.{Sides, Asked}
use Rattle.tg_regalloc_proof.proofs.Worlds.{load_too, load_byte_too, store_too, store_byte_too, put_too}
use Rattle.tg_regalloc_proof.proofs.Serving.{Worlds, serves}

sign_too : (o o' : Option ℕ) (x : ℕ) → ((b : ℕ) → o ≡ Some b → o' ≡ Some b) → with_sign o ≡ Some x → with_sign o'
    ≡ Some x
sign_too None o' x f h = cc
sign_too (Some b) o' x f h = ap with_sign (f b refl) ∙ h

module _ (a : Activation) (added : ℕ → Bool) (cells : ℕ → Cell) (E : Sides) where
  abbrev pub AskedOfWorlds : InstructionShape → Type 0
  AskedOfWorlds q = Asked a (Worlds added cells) (λ w v r. r.input) E q

  -- the first's slots are slots of the second, and no added ones
  pub respects :
      ((k : ℕ) → nat_lt k E.slots ≡ true → nat_lt k E.slots' ≡ true) → ((k : ℕ) → nat_lt k E.slots ≡ true → added
      (slot a.base k) ≡ false) →
      ((label : ℕ) → AskedOfWorlds (Calls label)) → AskedOfWorlds Returns → (one : Instr) → AskedOfWorlds (shape one)
  respects grow mine calls returns (Lb rt n rs) =
      λ w v b x r h. sign_too _ _ x (λ z f. load_byte_too added cells w.memory v.memory r.memory b z f) h
  respects grow mine calls returns (Lbu rt n rs) = λ w v b x r h.
      load_byte_too added cells w.memory v.memory r.memory b x h
  respects grow mine calls returns (Lw rt n rs) = λ w v b x r h. load_too added cells w.memory v.memory r.memory b x h
  respects grow mine calls returns (Sb rt n rs) =
      λ w v b x m r h. let z = store_byte_too added cells w.memory v.memory r.memory b x m h in (
        z.0,
        z.1,
        record { input = r.input; memory = z.2 },
      )
  respects grow mine calls returns (Sw rt n rs) =
      λ w v b x m r h. let z = store_too added cells w.memory v.memory r.memory b x m h in (
        z.0,
        z.1,
        record { input = r.input; memory = z.2 },
      )
  respects grow mine calls returns (FrameLoad to k) = λ w v r h. (
    grow k h,
    ap content_of (r.memory.other
        (slot a.base k) (mine k h)),
  )
  respects grow mine calls returns (FrameStore from k) =
      λ w v c r h. (
        grow k h,
        record {
          input = r.input;
          memory = put_too added cells w.memory v.memory r.memory
              (slot a.base k) (cell_of c) (mine k h);
        },
      )
  respects grow mine calls returns (Call label) = calls label.0
  respects grow mine calls returns Service = λ n u w v go go' r on. serves added cells go go' on E.room n u w v r
  respects grow mine calls returns Return = returns
  respects grow mine calls returns (Sll rd rt n) = tt
  respects grow mine calls returns (Srl rd rt n) = tt
  respects grow mine calls returns (Sra rd rt n) = tt
  respects grow mine calls returns (Mfhi rd) = tt
  respects grow mine calls returns (Mflo rd) = tt
  respects grow mine calls returns (Mult rs rt) = tt
  respects grow mine calls returns (Div rs rt) = tt
  respects grow mine calls returns (Add rd rs rt) = tt
  respects grow mine calls returns (Sub rd rs rt) = tt
  respects grow mine calls returns (Addu rd rs rt) = tt
  respects grow mine calls returns (Subu rd rs rt) = tt
  respects grow mine calls returns (And rd rs rt) = tt
  respects grow mine calls returns (Or rd rs rt) = tt
  respects grow mine calls returns (Xor rd rs rt) = tt
  respects grow mine calls returns (Nor rd rs rt) = tt
  respects grow mine calls returns (Slt rd rs rt) = tt
  respects grow mine calls returns (Sltu rd rs rt) = tt
  respects grow mine calls returns (Addi rt rs n) = tt
  respects grow mine calls returns (Addiu rt rs n) = tt
  respects grow mine calls returns (Slti rt rs n) = tt
  respects grow mine calls returns (Sltiu rt rs n) = tt
  respects grow mine calls returns (Andi rt rs n) = tt
  respects grow mine calls returns (Ori rt rs n) = tt
  respects grow mine calls returns (Xori rt rs n) = tt
  respects grow mine calls returns (Lui rt n) = tt
  respects grow mine calls returns (Move to from) = tt
  respects grow mine calls returns (FrameAddress to) = tt
  respects grow mine calls returns (Address to label) = tt
  respects grow mine calls returns (Mark m) = tt
  respects grow mine calls returns (Jump m) = tt
  respects grow mine calls returns (Branch test m) = tt
  respects grow mine calls returns (Fault n) = tt
