mod CallersKeep
