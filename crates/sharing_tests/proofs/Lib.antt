mod ThreePasses
