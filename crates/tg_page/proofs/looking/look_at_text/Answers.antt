use Rattle.std.proofs.Common.{ℕ, ◌≡◌, Err, refl}
use Rattle.tg_base.specs.declared.faulty.Faulty.{Faulty}
use Rattle.tg_base.specs.declared.faulty.Faulty.TheVariants.{Bad, Memory}
use Rattle.tg_asm_text.specs.declared.keywords.AsmRule.{AsmRule}
use Rattle.tg_asm_text.specs.Assembly.{assembled}
use Rattle.tg_asm.specs.Images.{GivesImage}
use Rattle.tg_page.specs.declared.looking.Place.{Place}
use Rattle.tg_page.specs.Looks.{Request, Buffers, IsLook, looked, faulty, no_memory}
use Rattle.tg_page.specs.glue.Requests.{refusal}
use Rattle.tg_page.proofs.looking.look_at_text.Goals as goal

-- a text without an image leaves the buffers as they were
untold : (q : Request) (buffers : Buffers) (fault : Faulty AsmRule ℕ) (place : Place) → GivesImage (assembled q.text) (Err fault) →
    place ≡ refusal fault → IsLook q buffers buffers place
untold q buffers (Bad rule line) place given is = faulty rule line given is refl
untold q buffers Memory place given is = no_memory is refl

pub returns-in-Ok-look : goal.returns-in-Ok-look
returns-in-Ok-look c = looked c.in-Ok.image c.in-Ok.ensures.image (c.in-Ok-look.ensures.looked c.args.text.now)

pub returns-in-Err : goal.returns-in-Err
returns-in-Err c = untold _ _ c.in-Err.fault _ c.in-Err.ensures.image c.refused.ensures
