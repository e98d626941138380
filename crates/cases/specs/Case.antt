-- The lists of a case. Definitions only.
use Rattle.std.specs.Prelude.{◌≡◌, vec_len}
use Rattle.cases.specs.declared.case.Case.{Case}
use Rattle.cases.specs.declared.header.Header.{Header}

-- a case has this header, and lists as long as it says
pub record IsOf (h : Header) (c : Case) : Type 0 where
  pub header : c.header ≡ h
  pub offsets : vec_len c.mesh.offsets ≡ h.sizes.offsets
  pub corners : vec_len c.mesh.corners ≡ h.sizes.corners
  pub coords : vec_len c.mesh.coords ≡ h.sizes.coords
  pub bits : vec_len c.bits ≡ h.sizes.coords
  pub arities : vec_len c.arities ≡ h.arities
  pub faces : vec_len c.faces ≡ h.faces
